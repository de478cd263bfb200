-- What is asked of a word, whatever the fact at its address says, and what is asked of each cell of a set.
use Rattle.std.proofs.Common.{◌≡◌, ℕ, ◌<◌, ◌==◌, Bool, true, false, ◌&&◌, ◌||◌, ◌⊎◌, Option, Some, None, refl, sym, ap, ◌∙◌, subst, inl, inr}
use Rattle.std.proofs.lemmas.Bool.{or_cases, eqb-true, eq-eqb, false≢true}
use Rattle.std.specs.Prelude.{IsTrue, ◌↔◌, if◌then◌else◌}
use Rattle.instruct.specs.declared.Instruction.TheVariants.{Memory, Operate2}
use Rattle.instruct.specs.declared.Operation.{Operation}
use Rattle.instruct.specs.declared.Operation.TheVariants as operation
use Rattle.instruct.specs.Operates.{is_halt, MqOperate}
use Rattle.instruct.specs.Bits.{is_indirect, named_cell}
use Rattle.instruct.specs.Instructions.{Meaning, Group1, Group2, Group3, Device, DeviceAction, Undefined, Jms, kind_of, operation_of, reference}
use Rattle.instruct.proofs.KindLemmas.{reference_meaning, group2_meaning}
use Rattle.wordset.specs.Words.{Words, IsWithin, nothing, one}
use Rattle.wordset.proofs.Tests.{or_left, or_right}
use Rattle.declaration.specs.Declaration.{Declaration}
use Rattle.domain.specs.Facts.{Place}
use Rattle.facts.specs.Instructions.{calls, jumps, is_call, is_jump, calls_through_index, returned_through, MayWrite}
use Rattle.facts.specs.PlaceInCode.{meaning_in}
use Rattle.policy.specs.Rules.{HaltsDeclared}
use Rattle.std.proofs.Math.Path.{fun_ext}

pub no_reference : {r : Bool} {k : Type 0} → r ≡ false → (IsTrue r ↔ k) → k → ⊥
no_reference e h k = false≢true (sym e ∙ h.1 k)

pub false_iff : {P : Type 0} → (P → false ≡ true) → IsTrue false ↔ P
false_iff h = (λ t. absurd (false≢true t), λ q. h q)

-- what is true of all other instructions is true of one that is no memory reference
pub unless_memory : (P : Meaning → Type 0) → ((w : ℕ) → P (Group1 w)) → ((w : ℕ) → P (Group2 w)) → ((o : MqOperate) → P (Group3 o)) → ((d : DeviceAction) → P (Device d)) → P Undefined →
    (m : Meaning) → (kind_of m ≡ Memory → ⊥) → P m
unless_memory P one two three device undefined (Group1 w) h = one w
unless_memory P one two three device undefined (Group2 w) h = two w
unless_memory P one two three device undefined (Group3 o) h = three o
unless_memory P one two three device undefined (Device d) h = device d
unless_memory P one two three device undefined Undefined h = undefined
unless_memory P one two three device undefined _ h = absurd (h refl)

-- a memory reference is the one that its bits say
pub refers_in : (pl : Place) (at w n : ℕ) (i : Bool) → kind_of (meaning_in pl at w) ≡ Memory → i ≡ is_indirect w → n ≡ named_cell w at →
    reference (operation_of w) i n ≡ meaning_in pl at w
refers_in pl at w n i k ei en = rw (ei, en) (sym (reference_meaning pl.declaration.profile at w k))

pub no_words : (s t : Words) → s ≡ nothing → ((v : ℕ) → t v ≡ false) → s ≡ t
no_words s t e h = e ∙ fun_ext (λ v. sym (h v))

-- cells that are all on a list or the routine's own entry
pub listed_iff : (r : Bool) (cells listed writes : Words) (e : ℕ) → ((a : ℕ) → listed a ≡ (writes a || (a == e))) → (IsTrue r ↔ IsWithin cells listed) →
    IsTrue r ↔ ((a : ℕ) → a < 4096 → cells a ≡ true → MayWrite writes (Some e) a)
listed_iff r cells listed writes e here h =
    (λ q a lt c. there a (sym (here a) ∙ h.0 q a lt c), λ p. h.1 (λ a lt c. here a ∙ back a (p a lt c)))
  where
    there : (a : ℕ) → (writes a || (a == e)) ≡ true → (writes a ≡ true) ⊎ (a ≡ e)
    there a t = elim (or_cases (writes a) (a == e) t) [ inl w ↦ inl w | inr q ↦ inr (eqb-true a e q) ]

    back : (a : ℕ) → (writes a ≡ true) ⊎ (a ≡ e) → (writes a || (a == e)) ≡ true
    back a x = elim x [
      | inl w ↦ or_left (writes a) (a == e) w
      | inr q ↦ or_right (writes a) (a == e) (ap (λ n. a == n) (sym q) ∙ eq-eqb a a refl)
    ]

-- what is asked of each cell, where they are the same cells or none
pub over : {r : Bool} (s t : Words) (P : ℕ → Type 0) → s ≡ t → (IsTrue r ↔ ((a : ℕ) → a < 4096 → s a ≡ true → P a)) → IsTrue r ↔ ((a : ℕ) → a < 4096 → t a ≡ true → P a)
over {r} s t P e h = subst (λ (x : Words). IsTrue r ↔ ((a : ℕ) → a < 4096 → x a ≡ true → P a)) e h

pub over_none : (t : Words) (P : ℕ → Type 0) → ((a : ℕ) → t a ≡ false) → IsTrue true ↔ ((a : ℕ) → a < 4096 → t a ≡ true → P a)
over_none t P h = (λ q a lt w. absurd (false≢true (sym (h a) ∙ w)), λ q. refl)

-- of one cell alone
pub over_one : {r : Bool} (t : Words) (c : ℕ) (P : ℕ → Type 0) → t ≡ one c → c < 4096 → (IsTrue r ↔ P c) → IsTrue r ↔ ((a : ℕ) → a < 4096 → t a ≡ true → P a)
over_one {r} t c P is small told = (
  λ q a lt has. subst P (sym (eqb-true a c (ap (λ (x : Words). x a) (sym is) ∙ has))) (told.0 q),
  λ all. told.1 (all c small (ap (λ (x : Words). x c) is ∙ eq-eqb c c refl)),
)

-- a declared halt
pub halts_nowhere : (pl : Place) (at w : ℕ) → (kind_of (meaning_in pl at w) ≡ Operate2 → ⊥) → IsTrue true ↔ HaltsDeclared pl.declaration (meaning_in pl at w) at
halts_nowhere pl at w h = (λ q. other (meaning_in pl at w) h, λ q. refl)
  where
    other : (m : Meaning) → (kind_of m ≡ Operate2 → ⊥) → HaltsDeclared pl.declaration m at
    other (Group2 a) n = absurd (n refl)
    other _ n = tt

pub halts_not : (r : Bool) (pl : Place) (at w : ℕ) → kind_of (meaning_in pl at w) ≡ Operate2 → r ≡ is_halt w → r ≡ false → IsTrue true ↔ HaltsDeclared pl.declaration (meaning_in pl at w) at
halts_not r pl at w k e n =
    subst (λ m. IsTrue true ↔ HaltsDeclared pl.declaration m at) (sym (group2_meaning pl.declaration.profile at w k))
    (λ q y. absurd (false≢true (sym n ∙ (e ∙ y))), λ q. refl)

pub halts_at : (r s : Bool) (pl : Place) (at w : ℕ) → kind_of (meaning_in pl at w) ≡ Operate2 → r ≡ is_halt w → r ≡ true → s ≡ (pl.declaration.stop at || pl.declaration.pause at) →
    IsTrue s ↔ HaltsDeclared pl.declaration (meaning_in pl at w) at
halts_at r s pl at w k e y es =
    subst (λ m. IsTrue s ↔ HaltsDeclared pl.declaration m at) (sym (group2_meaning pl.declaration.profile at w k))
    (λ q t. sym es ∙ q, λ q. es ∙ q (sym e ∙ y))

-- whether a word is a JMS
reference_call : (o : Operation) (i : Bool) (c : ℕ) → calls o ≡ is_call (reference o i c)
reference_call operation.And i c = refl
reference_call _ i c = refl

pub call_if : (r : Bool) (pl : Place) (at w : ℕ) → kind_of (meaning_in pl at w) ≡ Memory → r ≡ calls (operation_of w) → r ≡ is_call (meaning_in pl at w)
call_if r pl at w k er =
    er ∙ reference_call (operation_of w) (is_indirect w) (named_cell w at) ∙ ap is_call (refers_in pl at w (named_cell w at) (is_indirect w) k refl refl)

-- whether a word is a JMP
reference_jump : (o : Operation) (i : Bool) (c : ℕ) → jumps o ≡ is_jump (reference o i c)
reference_jump operation.And i c = refl
reference_jump _ i c = refl

pub jump_if : (r : Bool) (pl : Place) (at w : ℕ) → kind_of (meaning_in pl at w) ≡ Memory → r ≡ jumps (operation_of w) → r ≡ is_jump (meaning_in pl at w)
jump_if r pl at w k er =
    er ∙ reference_jump (operation_of w) (is_indirect w) (named_cell w at) ∙ ap is_jump (refers_in pl at w (named_cell w at) (is_indirect w) k refl refl)

-- a word that is no JMS calls through no cell
pub calls_none : (m : Meaning) → is_call m ≡ false → false ≡ calls_through_index m
calls_none (Jms i c) h = absurd (false≢true (sym h))
calls_none _ h = refl

-- a JMS is the one that its bits say
pub call_meaning : (pl : Place) (at w n : ℕ) (i : Bool) → i ≡ is_indirect w → n ≡ named_cell w at → is_call (meaning_in pl at w) ≡ true → Jms i n ≡ meaning_in pl at w
call_meaning pl at w n i ei en h =
    let k : kind_of (meaning_in pl at w) ≡ Memory = memory (meaning_in pl at w) h in
    let here : reference (operation_of w) i n ≡ meaning_in pl at w = refers_in pl at w n i k ei en in
    jms (operation_of w) (ap is_call here ∙ h) ∙ here
  where
    memory : (m : Meaning) → is_call m ≡ true → kind_of m ≡ Memory
    memory (Jms i c) q = refl
    memory _ q = absurd (false≢true q)

    jms : (o : Operation) → is_call (reference o i n) ≡ true → Jms i n ≡ reference o i n
    jms operation.Jms q = refl
    jms _ q = absurd (false≢true q)

-- the entry through which a word returns
pub returned_none : (d : Declaration) (m : Meaning) → (kind_of m ≡ Memory → ⊥) → None ≡ returned_through d m
returned_none d m h = unless_memory (λ m. None ≡ returned_through d m) (λ w. refl) (λ w. refl) (λ o. refl) (λ a. refl) refl m h

returned_by : (d : Declaration) (o : Operation) (i : Bool) (c : ℕ) → (if jumps o then (if i && d.entry c then Some c else None) else None) ≡ returned_through d (reference o i c)
returned_by d operation.And i c = refl
returned_by d _ i c = refl

pub returns_if : (x : Option ℕ) (pl : Place) (at w n : ℕ) (i r : Bool) → kind_of (meaning_in pl at w) ≡ Memory → r ≡ jumps (operation_of w) → i ≡ is_indirect w → n ≡ named_cell w at →
    x ≡ (if r then (if i && pl.declaration.entry n then Some n else None) else None) → x ≡ returned_through pl.declaration (meaning_in pl at w)
returns_if x pl at w n i r k er ei en e =
    e ∙ rw er (returned_by pl.declaration (operation_of w) i n) ∙ ap (returned_through pl.declaration) (refers_in pl at w n i k ei en)
