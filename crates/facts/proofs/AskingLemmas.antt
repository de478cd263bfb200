-- What is asked of a word: the cells that it reads, writes and calls.
use Rattle.std.proofs.Common.{◌≡◌, ℕ, ◌==◌, Bool, true, false, ◌&&◌, ◌||◌, Option, Some, None, refl, sym, ap, ◌∙◌, subst, inl}
use Rattle.std.proofs.lemmas.Bool.{eqb-true, eq-eqb, false≢true}
use Rattle.std.proofs.Math.Path.{fun_ext}
use Rattle.std.specs.Prelude.{IsTrue, ◌↔◌, is_some}
use Rattle.instruct.specs.declared.Instruction.TheVariants.{Memory}
use Rattle.instruct.specs.declared.Operation.{Operation}
use Rattle.instruct.specs.declared.Operation.TheVariants as operation
use Rattle.instruct.specs.Bits.{is_indirect, named_cell}
use Rattle.instruct.specs.Instructions.{Meaning, kind_of, operation_of, reference}
use Rattle.wordset.specs.Words.{Words, one, only, union, IsWithin, SameWords}
use Rattle.wordset.proofs.LaneBits.{or_false}
use Rattle.processor.specs.Machine.{steps_pointer}
use Rattle.declaration.specs.Declaration.{IsListed}
use Rattle.domain.specs.Locations.{is_routine}
use Rattle.domain.specs.Facts.{Fact, Place}
use Rattle.facts.specs.Instructions.{reads_operand, stores, counts, deposits, calls}
use Rattle.transfer.specs.References.{targets}
use Rattle.facts.specs.Conditions.{may_read, may_write, called, MayCount, CountsItsReturn, reach, AreInReach, MovesItsReturn, ReadsAreListed}
use Rattle.transfer.specs.Outcomes.{ac_of}
use Rattle.facts.specs.PlaceInCode.{meaning_in}
pub use Rattle.facts.proofs.AskedLemmas.{refers_in, unless_memory}

-- the cells read
read_by : (pl : Place) (f : Fact) (o : Operation) (i : Bool) (c a : ℕ) → ((i && (a == c)) || (reads_operand o && targets pl i c f a)) ≡ may_read pl f (reference o i c) a
read_by pl f operation.And i c a = refl
read_by pl f operation.Tad i c a = refl
read_by pl f operation.Isz i c a = refl
read_by pl f _ i c a = or_false (i && (a == c))

pub reads_none : (pl : Place) (f : Fact) (m : Meaning) → (kind_of m ≡ Memory → ⊥) → (a : ℕ) → may_read pl f m a ≡ false
reads_none pl f m h a = unless_memory (λ m. may_read pl f m a ≡ false) (λ w. refl) (λ w. refl) (λ o. refl) (λ d. refl) refl m h

pub reads_pointer : (s : Words) (pl : Place) (f : Fact) (o : Operation) (n : ℕ) (i r : Bool) → r ≡ reads_operand o → r ≡ false →
    ((a : ℕ) → s a ≡ (i && (a == n))) → s ≡ may_read pl f (reference o i n)
reads_pointer s pl f o n i r er lacks hs =
    let es : reads_operand o ≡ false = sym er ∙ lacks in
    fun_ext (λ v. hs v ∙ sym (or_false (i && (v == n))) ∙ ap (λ b. (i && (v == n)) || (b && targets pl i n f v)) (sym es) ∙ read_by pl f o i n v)

pub reads_both : (s p t : Words) (pl : Place) (f : Fact) (o : Operation) (n : ℕ) (i r : Bool) → r ≡ reads_operand o → r ≡ true →
    s ≡ union p t → ((a : ℕ) → p a ≡ (i && (a == n))) → t ≡ targets pl i n f → s ≡ may_read pl f (reference o i n)
reads_both s p t pl f o n i r er has hs hp ht =
    let es : reads_operand o ≡ true = sym er ∙ has in
    fun_ext (λ v. ap (λ (x : Words). x v) hs ∙ ap (λ b. b || t v) (hp v) ∙ ap (λ (x : Words). (i && (v == n)) || x v) ht
    ∙ ap (λ b. (i && (v == n)) || (b && targets pl i n f v)) (sym es) ∙ read_by pl f o i n v)

-- the cells written
written_by : (pl : Place) (f : Fact) (o : Operation) (i : Bool) (c a : ℕ) → ((steps_pointer i c && (a == c)) || (stores o && targets pl i c f a)) ≡ may_write pl f (reference o i c) a
written_by pl f operation.And i c a = refl
written_by pl f _ i c a = refl

pub writes_none : (pl : Place) (f : Fact) (m : Meaning) → (kind_of m ≡ Memory → ⊥) → (a : ℕ) → may_write pl f m a ≡ false
writes_none pl f m h a = unless_memory (λ m. may_write pl f m a ≡ false) (λ w. refl) (λ w. refl) (λ o. refl) (λ d. refl) refl m h

pub no_store : (pl : Place) (f : Fact) (o : Operation) (n : ℕ) (i r j : Bool) → r ≡ stores o → j ≡ steps_pointer i n → r ≡ false → j ≡ false → (a : ℕ) → may_write pl f (reference o i n) a ≡ false
no_store pl f o n i r j er ej hr hj a =
    let es : stores o ≡ false = sym er ∙ hr in
    let ep : steps_pointer i n ≡ false = sym ej ∙ hj in
    sym (written_by pl f o i n a) ∙ rw (ep, es) refl

pub writes_pointer : (s : Words) (pl : Place) (f : Fact) (o : Operation) (n : ℕ) (i j r : Bool) → r ≡ stores o → r ≡ false → j ≡ steps_pointer i n →
    ((a : ℕ) → s a ≡ (j && (a == n))) → s ≡ may_write pl f (reference o i n)
writes_pointer s pl f o n i j r er lacks ej hs =
    let es : stores o ≡ false = sym er ∙ lacks in
    fun_ext (λ v. hs v ∙ ap (λ b. b && (v == n)) ej ∙ sym (or_false (steps_pointer i n && (v == n)))
    ∙ ap (λ b. (steps_pointer i n && (v == n)) || (b && targets pl i n f v)) (sym es) ∙ written_by pl f o i n v)

pub writes_both : (s p t : Words) (pl : Place) (f : Fact) (o : Operation) (n : ℕ) (i j r : Bool) → r ≡ stores o → r ≡ true → j ≡ steps_pointer i n →
    s ≡ union p t → ((a : ℕ) → p a ≡ (j && (a == n))) → t ≡ targets pl i n f → s ≡ may_write pl f (reference o i n)
writes_both s p t pl f o n i j r er has ej hs hp ht =
    let es : stores o ≡ true = sym er ∙ has in
    fun_ext (λ v. ap (λ (x : Words). x v) hs ∙ ap (λ b. b || t v) (hp v ∙ ap (λ b. b && (v == n)) ej) ∙ ap (λ (x : Words). (steps_pointer i n && (v == n)) || x v) ht
    ∙ ap (λ b. (steps_pointer i n && (v == n)) || (b && targets pl i n f v)) (sym es) ∙ written_by pl f o i n v)

-- the one cell in which a word stores without a pointer
pub stores_one : (pl : Place) (f : Fact) (o : Operation) (n : ℕ) (i r : Bool) → r ≡ stores o → r ≡ true → i ≡ false → may_write pl f (reference o i n) ≡ one n
stores_one pl f o n i r er has direct =
    let es : stores o ≡ true = sym er ∙ has in
    fun_ext (λ a. sym (written_by pl f o i n a) ∙ rw (direct, es) refl)

-- the cells called
pub calls_nothing : (pl : Place) (f : Fact) (m : Meaning) → (kind_of m ≡ Memory → ⊥) → (a : ℕ) → called pl f m a ≡ false
calls_nothing pl f m h a = unless_memory (λ m. called pl f m a ≡ false) (λ w. refl) (λ w. refl) (λ o. refl) (λ d. refl) refl m h

pub not_called : (pl : Place) (f : Fact) (o : Operation) (n : ℕ) (i r : Bool) → r ≡ calls o → r ≡ false → (a : ℕ) → called pl f (reference o i n) a ≡ false
not_called pl f o n i r er lacks a = go o (sym er ∙ lacks)
  where
    go : (p : Operation) → calls p ≡ false → called pl f (reference p i n) a ≡ false
    go operation.Jms q = absurd (false≢true (sym q))
    go _ q = refl

pub calls_targets : (t : Words) (pl : Place) (f : Fact) (o : Operation) (n : ℕ) (i r : Bool) → r ≡ calls o → r ≡ true → t ≡ targets pl i n f → t ≡ called pl f (reference o i n)
calls_targets t pl f o n i r er has ht = fun_ext (λ a. ap (λ (x : Words). x a) ht ∙ go o a (sym er ∙ has))
  where
    go : (p : Operation) (a : ℕ) → calls p ≡ true → targets pl i n f a ≡ called pl f (reference p i n) a
    go operation.Jms a q = refl
    go _ a q = absurd (false≢true q)

-- an ISZ counts the return word up where all of these are so
pub counts_in : {i : Bool} {n : ℕ} (pl : Place) (f : Fact) (at w a : ℕ) → kind_of (meaning_in pl at w) ≡ Memory → i ≡ is_indirect w → n ≡ named_cell w at →
    CountsItsReturn pl f (meaning_in pl at w) a ↔ ((counts (operation_of w) ≡ true) × (is_routine pl.routine a ≡ true) × (only (targets pl i n f) ≡ Some a) × MayCount pl.rules f)
counts_in {i} {n} pl f at w a k ei en =
    subst (λ m. CountsItsReturn pl f m a ↔ ((counts (operation_of w) ≡ true) × (is_routine pl.routine a ≡ true) × (only (targets pl i n f) ≡ Some a) × MayCount pl.rules f))
    (refers_in pl at w n i k ei en) (go (operation_of w))
  where
    is_own : (r : Option ℕ) → is_routine r a ≡ true → r ≡ Some a
    is_own None e = absurd (false≢true e)
    is_own (Some k) e = ap (λ n. Some n) (sym (eqb-true a k e))

    go : (o : Operation) → CountsItsReturn pl f (reference o i n) a ↔ ((counts o ≡ true) × (is_routine pl.routine a ≡ true) × (only (targets pl i n f) ≡ Some a) × MayCount pl.rules f)
    go operation.Isz = (λ q. (refl, ap (λ r. is_routine r a) q.0 ∙ eq-eqb a a refl, q.1, q.2), λ p. (is_own pl.routine p.1, p.2, p.3))
    go _ = (λ q. absurd q, λ p. absurd (false≢true p.0))

-- a DCA moves the return word where all of these are so
pub moves_in : {i : Bool} {n : ℕ} (pl : Place) (f : Fact) (at w a : ℕ) → kind_of (meaning_in pl at w) ≡ Memory → i ≡ is_indirect w → n ≡ named_cell w at →
    MovesItsReturn pl f (meaning_in pl at w) a ↔ ((deposits (operation_of w) ≡ true) × (i ≡ false) × (is_routine pl.routine a ≡ true) × (pl.declaration.moves a ≡ true) × AreInReach f (ac_of pl f))
moves_in {i} {n} pl f at w a k ei en =
    subst (λ m. MovesItsReturn pl f m a ↔ ((deposits (operation_of w) ≡ true) × (i ≡ false) × (is_routine pl.routine a ≡ true) × (pl.declaration.moves a ≡ true) × AreInReach f (ac_of pl f)))
    (refers_in pl at w n i k ei en) (go (operation_of w))
  where
    is_own : (r : Option ℕ) → is_routine r a ≡ true → r ≡ Some a
    is_own None e = absurd (false≢true e)
    is_own (Some k) e = ap (λ n. Some n) (sym (eqb-true a k e))

    go : (o : Operation) → MovesItsReturn pl f (reference o i n) a ↔ ((deposits o ≡ true) × (i ≡ false) × (is_routine pl.routine a ≡ true) × (pl.declaration.moves a ≡ true) × AreInReach f (ac_of pl f))
    go operation.Dca = (λ q. (refl, q.0, ap (λ r. is_routine r a) q.1 ∙ eq-eqb a a refl, q.2, q.3), λ p. (p.1, is_own pl.routine p.2, p.3, p.4))
    go _ = (λ q. absurd q, λ p. absurd (false≢true p.0))

pub no_entry : {e : Bool} {X : Type 0} (known : Bool) → known ≡ e → known ≡ false → IsTrue true ↔ (e ≡ true → X)
no_entry known same lacks = (λ q is. absurd (false≢true (sym lacks ∙ (same ∙ is))), λ h. refl)

-- the words within reach of a site
pub within_reach : (known near : Words) (a : ℕ) → SameWords near (reach a) → IsWithin known near → IsWithin known (reach a)
within_reach known near a same h w lt has = sym (same w lt) ∙ h w lt has

-- without a list of reads
pub reads_unlisted : (pl : Place) (f : Fact) (m : Meaning) (b : Bool) → b ≡ is_some pl.declaration.reads → b ≡ false → IsTrue true ↔ ReadsAreListed pl f m
reads_unlisted pl f m b e h = (λ q a lt w. inl (unlisted pl.declaration.reads a (sym e ∙ h)), λ q. refl)
  where
    unlisted : (reads : Option Words) (a : ℕ) → is_some reads ≡ false → IsListed reads a
    unlisted None a e = tt
    unlisted (Some cells) a e = absurd (false≢true (sym e))
