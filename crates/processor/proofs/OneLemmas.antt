-- An instruction leads to one state by an answer.
use Rattle.std.proofs.Common.{ℕ, ◌≡◌, Bool, true, false, refl, sym, ap, ◌∙◌}
use Rattle.std.specs.Prelude.{if◌then◌else◌}
use Rattle.instruct.specs.Operates.{operate2_of, reads_switches_of, skips_of}
use Rattle.instruct.specs.Instructions.{Meaning, And, Tad, Isz, Dca, Jms, Jmp, Group1, Group2, Group3, Device, Undefined, DeviceAction, Skips, Ors, Clears, Takes, Leaves}
use Rattle.processor.specs.Machine.{State, Answer, Silent, Truth, Byte, Switches as Told, Answers, Does, instruction, next_pc}
use Rattle.processor.specs.Laws.{StepLeadsToOneState}

-- one answer, one accumulator and one skip
truth_one : (a b : Bool) (q : Answer) → q ≡ Truth a → q ≡ Truth b → a ≡ b
truth_one a b q p r = let same : Truth a ≡ Truth b = sym p ∙ r in cc

byte_one : (a b : ℕ) (q : Answer) → q ≡ Byte a → q ≡ Byte b → a ≡ b
byte_one a b q p r = let same : Byte a ≡ Byte b = sym p ∙ r in cc

word_one : (a b : ℕ) → Told a ≡ Told b → a ≡ b
word_one a b p = cc

answers_one : (action : DeviceAction) (ac : ℕ) (q : Answer) (x y : ℕ) (i j : Bool) → Answers action ac q x i → Answers action ac q y j → (x ≡ y) × (i ≡ j)
answers_one Skips ac q x y i j a b = (a.1 ∙ sym b.1, truth_one i j q a.0 b.0)
answers_one Ors ac q x y i j a b =
    let same : a.0 ≡ b.0 = byte_one a.0 b.0 q a.2 b.2 in
    (rw (a.3, b.3, same) refl, a.4 ∙ sym b.4)
answers_one Clears ac q x y i j a b = (a.1 ∙ sym b.1, a.2 ∙ sym b.2)
answers_one Takes ac q x y i j a b =
    let same : a.0 ≡ b.0 = byte_one a.0 b.0 q a.2 b.2 in
    (rw (a.3, b.3, same) refl, a.4 ∙ sym b.4)
answers_one Leaves ac q x y i j a b = (a.1 ∙ sym b.1, a.2 ∙ sym b.2)

-- group 2 takes the switches only where it is told them
operate_one : (word ac v u : ℕ) (reads : Bool) → reads_switches_of word ≡ reads → (if reads then Told v else Silent) ≡ (if reads then Told u else Silent) → operate2_of word ac v ≡ operate2_of word ac u
operate_one word ac v u true is same = rw (word_one v u same) refl
operate_one word ac v u false is same = rw is refl

-- an instruction leads to one state by an answer
pub does_one : (m : Meaning) (s : State) (q : Answer) (t u : State) → Does m s q t → Does m s q u → t ≡ u
does_one (And i c) s q t u x y = x.1 ∙ sym y.1
does_one (Tad i c) s q t u x y = x.1 ∙ sym y.1
does_one (Isz i c) s q t u x y = x.1 ∙ sym y.1
does_one (Dca i c) s q t u x y = x.1 ∙ sym y.1
does_one (Jms i c) s q t u x y = x.1 ∙ sym y.1
does_one (Jmp i c) s q t u x y = x.1 ∙ sym y.1
does_one (Group1 w) s q t u x y = x.1 ∙ sym y.1
does_one (Group2 w) s q t u x y =
    let same : operate2_of w s.ac x.0 ≡ operate2_of w s.ac y.0 = operate_one w s.ac x.0 y.0 (reads_switches_of w) refl (sym x.2 ∙ y.2) in
    x.3 ∙ ap (λ (ac : ℕ). let made : State = record s { ac = ac; pc = next_pc s.pc (skips_of w s.ac s.link) } in made) same ∙ sym y.3
does_one (Group3 o) s q t u x y = x.1 ∙ sym y.1
does_one (Device action) s q t u x y =
    let same = answers_one action s.ac q x.0 y.0 x.1 y.1 x.2 y.2 in
    rw (x.3, y.3, same.0, same.1) refl
does_one Undefined s q t u x y = absurd x

pub step_leads_to_one_state : StepLeadsToOneState
step_leads_to_one_state profile s q t u x y = does_one (instruction profile s) s q t u x y
