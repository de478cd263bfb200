-- Fixed code stays as the tape has it.
use Rattle.std.proofs.Common.{ℕ, ◌≡◌, ◌≢◌, ◌==◌, Bool, true, false, ◌&&◌, ◌||◌, ◌⊎◌, inl, inr, Some, refl, sym, ap, ◌∙◌, subst}
use Rattle.std.specs.Prelude.{if◌then◌else◌}
use Rattle.std.proofs.lemmas.Bool.{true≢false}
use Rattle.std.proofs.lemmas.Bool.Decides.{eqb_tells}
use Rattle.instruct.specs.Instructions.{Meaning, And, Tad, Isz, Dca, Jms, Jmp, Group1, Group2, Group3, Device, Undefined}
use Rattle.processor.specs.Cells.{Cells, updated}
use Rattle.processor.specs.Machine.{State, Answer, Does, instruction, after, place, seen, operand, steps_pointer}
use Rattle.processor.specs.Runs.{Image}
use Rattle.processor.proofs.CellLemmas.{updated_other}
use Rattle.peripherals.specs.Loading.{laid}
use Rattle.declaration.specs.Declaration.{Routine, Declaration, IsDeclared}
use Rattle.policy.specs.Calls.{Calls, current}
use Rattle.policy.specs.Rules.{StaysInBody, WritesDeclared, CallsEntries, KeepsCode, IsLegal}

module _ (image : Image) (d : Declaration) (dd : IsDeclared d) where
  -- a cell that is no fixed code
  abbrev Free : ℕ → Type 0
  Free a = (d.variable a ≡ true) ⊎ (d.entry a ≡ true)

  free_apart : (at a : ℕ) (r : Routine) → Free at → d.body r a ≡ true → d.variable a ≡ false → a ≢ at
  free_apart at a r (inl variable) body fixed = λ same. true≢false (sym variable ∙ ap d.variable (sym same) ∙ fixed)
  free_apart at a r (inr entry) body fixed = λ same. true≢false (sym body ∙ ap (λ (x : ℕ). d.body r x) same ∙ dd.entry_not_in_body at r entry)

  updated_keeps : (memory : Cells) (at value : ℕ) → Free at → KeepsCode image d memory → KeepsCode image d (updated memory at value)
  updated_keeps memory at value free keeps = λ r a w body fixed on. updated_other memory at value a (free_apart at a r free body fixed) ∙ keeps r a w body fixed on

  stepped_keeps : (b : Bool) (memory : Cells) (at value : ℕ) → (b ≡ true → Free at) → KeepsCode image d memory → KeepsCode image d (if b then updated memory at value else memory)
  stepped_keeps true memory at value free keeps = updated_keeps memory at value (free refl) keeps
  stepped_keeps false memory at value free keeps = keeps

  seen_keeps : (i : Bool) (c : ℕ) (memory : Cells) → (steps_pointer i c ≡ true → Free c) → KeepsCode image d memory → KeepsCode image d (seen i c memory)
  seen_keeps i c memory free keeps = stepped_keeps (steps_pointer i c) memory c (after (memory c) 1) free keeps

  equal_number : (a : ℕ) → (a == a) ≡ true
  equal_number a = elim (eqb_tells a a) [
    | inl same ↦ same.0
    | inr apart ↦ absurd (apart.1 refl)
  ]

  stepped_at : (b x : Bool) (c : ℕ) → b ≡ true → ((b && (c == c)) || x) ≡ true
  stepped_at true x c on = rw (equal_number c) refl
  stepped_at false x c on = cc

  or_second : (a b : Bool) → b ≡ true → (a || b) ≡ true
  or_second true b h = refl
  or_second false b h = h

  -- a cell that a legal step writes, when it can't be the own entry, and when it can
  plain_free : (a : ℕ) → (d.variable a ≡ true) ⊎ ⊥ → Free a
  plain_free a (inl variable) = inl variable
  plain_free a (inr none) = absurd none

  own_free : (pc : ℕ) (r : Routine) (a : ℕ) → d.body r pc ≡ true → (d.variable a ≡ true) ⊎ (r ≡ Some a) → Free a
  own_free pc r a body (inl variable) = inl variable
  own_free pc r a body (inr own) = inr (dd.body_of_routine pc a (subst (λ (x : Routine). d.body x pc ≡ true) own body))

  moved_free : (pc : ℕ) (r : Routine) (i : Bool) (a : ℕ) → d.body r pc ≡ true → (d.variable a ≡ true) ⊎ ((i ≡ false) × (d.moves a ≡ true) × (r ≡ Some a)) → Free a
  moved_free pc r i a body (inl variable) = inl variable
  moved_free pc r i a body (inr own) = own_free pc r a body (inr own.2)

  -- a legal step leaves fixed code
  does_keeps : (m : Meaning) (s t : State) (q : Answer) (ks : Calls) → d.body (current ks) s.pc ≡ true → WritesDeclared d m s ks → CallsEntries d m s → Does m s q t →
      KeepsCode image d s.memory → KeepsCode image d t.memory
  does_keeps (And i c) s t q ks body writes calls does keeps = subst (λ (x : State). KeepsCode image d x.memory) (sym does.1)
      (seen_keeps i c s.memory (λ on. plain_free c (writes c (stepped_at (steps_pointer i c) false c on))) keeps)
  does_keeps (Tad i c) s t q ks body writes calls does keeps = subst (λ (x : State). KeepsCode image d x.memory) (sym does.1)
      (seen_keeps i c s.memory (λ on. plain_free c (writes c (stepped_at (steps_pointer i c) false c on))) keeps)
  does_keeps (Isz i c) s t q ks body writes calls does keeps = subst (λ (x : State). KeepsCode image d x.memory) (sym does.1)
      (updated_keeps (seen i c s.memory) (place i c s.memory) (after (operand i c s.memory) 1)
      (own_free s.pc (current ks) (place i c s.memory) body (writes (place i c s.memory) (or_second (steps_pointer i c && (place i c s.memory == c)) (place i c s.memory == place i c s.memory) (equal_number (place i c s.memory)))))
      (seen_keeps i c s.memory (λ on. own_free s.pc (current ks) c body (writes c (stepped_at (steps_pointer i c) (c == place i c s.memory) c on))) keeps))
  does_keeps (Dca i c) s t q ks body writes calls does keeps = subst (λ (x : State). KeepsCode image d x.memory) (sym does.1)
      (updated_keeps (seen i c s.memory) (place i c s.memory) s.ac
      (moved_free s.pc (current ks) i (place i c s.memory) body (writes (place i c s.memory) (or_second (steps_pointer i c && (place i c s.memory == c)) (place i c s.memory == place i c s.memory) (equal_number (place i c s.memory)))))
      (seen_keeps i c s.memory (λ on. moved_free s.pc (current ks) i c body (writes c (stepped_at (steps_pointer i c) (c == place i c s.memory) c on))) keeps))
  does_keeps (Jms i c) s t q ks body writes calls does keeps = subst (λ (x : State). KeepsCode image d x.memory) (sym does.1)
      (updated_keeps (seen i c s.memory) (place i c s.memory) (after s.pc 1) (inr calls)
      (seen_keeps i c s.memory (λ on. plain_free c (writes c (stepped_at (steps_pointer i c) false c on))) keeps))
  does_keeps (Jmp i c) s t q ks body writes calls does keeps = subst (λ (x : State). KeepsCode image d x.memory) (sym does.1)
      (seen_keeps i c s.memory (λ on. plain_free c (writes c (stepped_at (steps_pointer i c) false c on))) keeps)
  does_keeps (Group1 w) s t q ks body writes calls does keeps = subst (λ (x : State). KeepsCode image d x.memory) (sym does.1) keeps
  does_keeps (Group2 w) s t q ks body writes calls does keeps = subst (λ (x : State). KeepsCode image d x.memory) (sym does.3) keeps
  does_keeps (Group3 o) s t q ks body writes calls does keeps = subst (λ (x : State). KeepsCode image d x.memory) (sym does.1) keeps
  does_keeps (Device action) s t q ks body writes calls does keeps = subst (λ (x : State). KeepsCode image d x.memory) (sym does.3) keeps
  does_keeps Undefined s t q ks body writes calls does keeps = absurd does

  pub declared_keeps : (s t : State) (q : Answer) (ks : Calls) → StaysInBody d s ks → WritesDeclared d (instruction d.profile s) s ks → CallsEntries d (instruction d.profile s) s → Does (instruction d.profile s) s q t
      → KeepsCode image d s.memory → KeepsCode image d t.memory
  declared_keeps s t q ks stays writes calls does keeps = does_keeps (instruction d.profile s) s t q ks stays.in_body writes calls does keeps

  pub step_keeps : (s t : State) (q : Answer) (ks : Calls) → IsLegal image d s ks → Does (instruction d.profile s) s q t → KeepsCode image d t.memory
  step_keeps s t q ks legal does = does_keeps (instruction d.profile s) s t q ks legal.stays.in_body legal.writes legal.calls does legal.code

-- what is loaded is the tape's
pub loaded_word : (image : Image) (memory : Cells) (a w : ℕ) → image a ≡ Some w → laid image memory a ≡ w
loaded_word image memory a w is = rw is refl

pub loaded_keeps : (image : Image) (d : Declaration) (memory : Cells) → KeepsCode image d (laid image memory)
loaded_keeps image d memory = λ r a w body fixed on. loaded_word image memory a w on
