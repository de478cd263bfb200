-- What a step from a state of a fact does is among what the fact says that it may.
use Rattle.std.proofs.Common.{◌≡◌, ℕ, ◌<◌, ◌==◌, Bool, true, false, ◌&&◌, ◌||◌, ◌⊎◌, refl, ap, ◌∙◌, subst, inl, inr}
use Rattle.std.proofs.lemmas.Bool.{eqb-true, and_parts, or_cases, false≢true}
use Rattle.instruct.specs.Instructions.{Meaning, And, Tad, Isz, Dca, Jms, Jmp}
use Rattle.processor.specs.Cells.{Cells}
use Rattle.processor.specs.Machine.{State, place, instruction, steps_pointer}
use Rattle.policy.specs.Calls.{Calls}
use Rattle.policy.specs.Rules.{pointer_of, read_by, written_by}
use Rattle.domain.specs.Facts.{Fact, Place}
use Rattle.facts.specs.States.{IsState}
use Rattle.transfer.specs.References.{targets}
use Rattle.facts.specs.Conditions.{may_read, may_write, WritesAreDeclared}
use Rattle.facts.specs.Access.{IsStateOf, ReadsAreForeseen, WritesAreForeseen, CallsAreForeseen, WordsAreForeseen}
use Rattle.facts.proofs.WordLemmas.{or_left}
use Rattle.facts.proofs.StateLemmas.{seen_place, possible_true}
use Rattle.facts.proofs.StepLemmas.{NamesWord, meaning_names, pointer_written, accessed}

or_wider : (x y z : Bool) → (y ≡ true → z ≡ true) → (x || y) ≡ true → (x || z) ≡ true
or_wider true y z f e = refl
or_wider false y z f e = f e

-- the place that a memory reference refers to is one of its targets
reaches : (pl : Place) (start : Cells) (f : Fact) (s : State) (ks : Calls) (i : Bool) (c : ℕ) → IsStateOf pl start f s ks → c < 4096
    → (steps_pointer i c ≡ true → (pl.declaration.variable c ≡ true) ⊎ (pl.declaration.entry c ≡ true)) → targets pl i c f (place i c s.memory) ≡ true
reaches pl start f s ks i c is named declared = (accessed pl is.declared start is.begun f s ks i c is.state is.top is.means named declared).target

-- and so is a cell at that place
among : (pl : Place) (start : Cells) (f : Fact) (s : State) (ks : Calls) (a : ℕ) (i : Bool) (c : ℕ) (m : Meaning) → IsStateOf pl start f s ks → c < 4096 → WritesAreDeclared pl f m → pointer_of m c ≡ (steps_pointer i c && (c == c)) →
    (a == place i c s.memory) ≡ true → targets pl i c f a ≡ true
among pl start f s ks a i c m is named declared pointer e =
    ap (targets pl i c f) (eqb-true a _ e)
    ∙ reaches pl start f s ks i c is named (λ q. declared c named (or_left _ _ (pointer ∙ pointer_written pl is.declared start is.begun i c q)))

pub read_may : (pl : Place) (start : Cells) (f : Fact) (s : State) (ks : Calls) (a : ℕ) (m : Meaning) → IsStateOf pl start f s ks → NamesWord m → WritesAreDeclared pl f m → read_by m s.memory a ≡ true → may_read pl f m a ≡ true
read_may pl start f s ks a (And i c) is named declared reads = or_wider (i && (a == c)) _ _ (among pl start f s ks a i c (And i c) is named declared refl) reads
read_may pl start f s ks a (Tad i c) is named declared reads = or_wider (i && (a == c)) _ _ (among pl start f s ks a i c (Tad i c) is named declared refl) reads
read_may pl start f s ks a (Isz i c) is named declared reads = or_wider (i && (a == c)) _ _ (among pl start f s ks a i c (Isz i c) is named declared refl) reads
read_may pl start f s ks a _ is named declared reads = reads

pub write_may : (pl : Place) (start : Cells) (f : Fact) (s : State) (ks : Calls) (a : ℕ) (m : Meaning) → IsStateOf pl start f s ks → NamesWord m → WritesAreDeclared pl f m → written_by m s.memory a ≡ true → may_write pl f m a ≡ true
write_may pl start f s ks a (Isz i c) is named declared writes = or_wider (pointer_of (Isz i c) a) _ _ (among pl start f s ks a i c (Isz i c) is named declared refl) writes
write_may pl start f s ks a (Dca i c) is named declared writes = or_wider (pointer_of (Dca i c) a) _ _ (among pl start f s ks a i c (Dca i c) is named declared refl) writes
write_may pl start f s ks a _ is named declared writes = writes

-- what is read or written is a word
named_word : (b : Bool) (a c : ℕ) → c < 4096 → (b && (a == c)) ≡ true → a < 4096
named_word b a c lt e = let same : a ≡ c = eqb-true a c (and_parts b (a == c) e).1 in rw same lt

placed_word : (s : State) (i : Bool) (a c : ℕ) → IsState s → c < 4096 → (a == place i c s.memory) ≡ true → a < 4096
placed_word s i a c ss lt e = let same : a ≡ place i c s.memory = eqb-true a (place i c s.memory) e in rw same (seen_place i c s.memory ss.words lt)

operand_word : (s : State) (i b : Bool) (a c : ℕ) → IsState s → c < 4096 → ((b && (a == c)) || (a == place i c s.memory)) ≡ true → a < 4096
operand_word s i b a c ss lt e = elim (or_cases (b && (a == c)) (a == place i c s.memory) e) [
  | inl p ↦ named_word b a c lt p
  | inr p ↦ placed_word s i a c ss lt p
]

pointer_word : (b : Bool) (a c : ℕ) → c < 4096 → ((b && (a == c)) || false) ≡ true → a < 4096
pointer_word b a c lt e = elim (or_cases (b && (a == c)) false e) [ inl p ↦ named_word b a c lt p | inr p ↦ absurd (false≢true p) ]

pub read_word : (m : Meaning) (s : State) (a : ℕ) → IsState s → NamesWord m → read_by m s.memory a ≡ true → a < 4096
read_word (And i c) s a ss n e = operand_word s i i a c ss n e
read_word (Tad i c) s a ss n e = operand_word s i i a c ss n e
read_word (Isz i c) s a ss n e = operand_word s i i a c ss n e
read_word (Dca i c) s a ss n e = named_word i a c n e
read_word (Jms i c) s a ss n e = named_word i a c n e
read_word (Jmp i c) s a ss n e = named_word i a c n e
read_word _ s a ss n e = absurd (false≢true e)

pub written_word : (m : Meaning) (s : State) (a : ℕ) → IsState s → NamesWord m → written_by m s.memory a ≡ true → a < 4096
written_word (And i c) s a ss n e = pointer_word (steps_pointer i c) a c n e
written_word (Tad i c) s a ss n e = pointer_word (steps_pointer i c) a c n e
written_word (Isz i c) s a ss n e = operand_word s i (steps_pointer i c) a c ss n e
written_word (Dca i c) s a ss n e = operand_word s i (steps_pointer i c) a c ss n e
written_word (Jms i c) s a ss n e = pointer_word (steps_pointer i c) a c n e
written_word (Jmp i c) s a ss n e = pointer_word (steps_pointer i c) a c n e
written_word _ s a ss n e = absurd (false≢true e)

pub reads_are_foreseen : ReadsAreForeseen
reads_are_foreseen pl start f s ks a is declared reads =
    read_may pl start f s ks a (instruction pl.declaration.profile s) is (meaning_names pl.declaration.profile s.pc (s.memory s.pc) is.state.pc) declared reads

pub writes_are_foreseen : WritesAreForeseen
writes_are_foreseen pl start f s ks a is declared writes =
    write_may pl start f s ks a (instruction pl.declaration.profile s) is (meaning_names pl.declaration.profile s.pc (s.memory s.pc) is.state.pc) declared writes

pub calls_are_foreseen : CallsAreForeseen
calls_are_foreseen pl start f s ks i c is declared call =
    let named : NamesWord (Jms i c) = subst NamesWord call (meaning_names pl.declaration.profile s.pc (s.memory s.pc) is.state.pc) in
    let here : WritesAreDeclared pl f (Jms i c) = subst (λ (m : Meaning). WritesAreDeclared pl f m) call declared in
    reaches pl start f s ks i c is named (λ e. here c named (or_left _ _ (pointer_written pl is.declared start is.begun i c e)))

pub words_are_foreseen : WordsAreForeseen
words_are_foreseen pl start f s ks a is none = possible_true pl is.declared start is.begun f s ks a is.state is.means none
