-- Steps by the meaning of the word.
use Rattle.std.proofs.Common.{ℕ, ◌≡◌, ◌<◌, Bool, true, false, refl, sym, ap, ◌∙◌, if◌then◌else◌, IsSome}
use Rattle.instruct.specs.declared.Profile.{Profile}
use Rattle.instruct.specs.declared.Profile.TheVariants.{Pdp8E}
use Rattle.instruct.specs.declared.Instruction.TheVariants.{Operate1, Operate2, Operate3, Iot}
use Rattle.instruct.specs.Operates.{operate1_of, operate2_of, operate3_of, skips_of, reads_switches_of, is_halt}
use Rattle.instruct.specs.Instructions.{meaning_of, kind_of, device_action, Group2}
use Rattle.instruct.proofs.KindLemmas.{group1_meaning, group2_meaning, group3_meaning_of, device_meaning_of, action_of_8e}
use Rattle.processor.specs.Cells.{Cells, updated}
use Rattle.processor.specs.Machine.{State, Answer, Answers, Silent, Switches, Does, Step, instruction, after, next_pc, seen, place, is_auto_index, steps_pointer}
use Rattle.processor.specs.Steps.{DeviceAnswers, answer_taken, halts_after}
use Rattle.processor.proofs.CellLemmas.{updated_same}

pub group1_does : (p : Profile) (s t : State) (word : ℕ) → kind_of (meaning_of p s.pc word) ≡ Operate1 →
    t ≡ record s { ac = (operate1_of word (s.ac, s.link)).0; link = (operate1_of word (s.ac, s.link)).1; pc = after s.pc 1 } →
    Does (meaning_of p s.pc word) s Silent t
group1_does p s t word kind is = rw (group1_meaning p s.pc word kind) (refl, is)

pub group2_does : (p : Profile) (s t : State) (word v : ℕ) → v < 4096 → kind_of (meaning_of p s.pc word) ≡ Operate2 →
    t ≡ record s { ac = operate2_of word s.ac v; pc = next_pc s.pc (skips_of word s.ac s.link) } →
    Does (meaning_of p s.pc word) s (if reads_switches_of word then Switches v else Silent) t
group2_does p s t word v small kind is = rw (group2_meaning p s.pc word kind) (v, small, refl, is)

pub group3_does : (p : Profile) (s t : State) (word : ℕ) → kind_of (meaning_of p s.pc word) ≡ Operate3 →
    t ≡ record s { ac = (operate3_of word (s.ac, s.mq)).0; mq = (operate3_of word (s.ac, s.mq)).1; pc = after s.pc 1 } →
    Does (meaning_of p s.pc word) s Silent t
group3_does p s t word kind is =
    let found = group3_meaning_of p s.pc word kind in
    rw found.2 (refl, rw found.1 at is)

pub group2_step : (p : Profile) (s t : State) (word v : ℕ) (device : Answer) (halt : Bool) → word ≡ s.memory s.pc → kind_of (meaning_of p s.pc word) ≡ Operate2 →
    Does (meaning_of p s.pc word) s (if reads_switches_of word then Switches v else Silent) t → halt ≡ is_halt word →
    Step p s (answer_taken (instruction p s) device v) t × (halts_after (instruction p s) ≡ halt)
group2_step p s t word v device halt read kind does halts =
    let same : meaning_of p s.pc word ≡ Group2 word = group2_meaning p s.pc word kind in
    let done : Does (Group2 word) s (if reads_switches_of word then Switches v else Silent) t = rw same at does in
    rw (← read, same) (done, sym halts)

pub device_step : (p : Profile) (s t : State) (word v ac : ℕ) (device : ℕ → Answer) (skip : Bool) → word ≡ s.memory s.pc → kind_of (meaning_of p s.pc word) ≡ Iot →
    DeviceAnswers (device_action Pdp8E word) s.ac (device word) ac skip → t ≡ record s { ac = ac; pc = next_pc s.pc skip } →
    Step p s (answer_taken (instruction p s) (device (s.memory s.pc)) v) t × (halts_after (instruction p s) ≡ false)
device_step p s t word v ac device skip read kind answers is =
    let found = device_meaning_of p s.pc word kind in
    let allowed : Answers found.0 s.ac (device word) ac skip = rw (action_of_8e p word found.0 found.1) at answers in
    rw (← read, found.2) ((ac, skip, allowed, is), refl)

-- the 8/E has an action for each device word
pub device_has_action : (p : Profile) (at word : ℕ) → kind_of (meaning_of p at word) ≡ Iot → IsSome (device_action Pdp8E word)
device_has_action p at word kind =
    let found = device_meaning_of p at word kind in
    rw (action_of_8e p word found.0 found.1) refl

-- a pointer in an auto-index cell is used as it is after it was stepped
pub stepped_place : (i : Bool) (c : ℕ) (m : Cells) → i ≡ true → is_auto_index c ≡ true → place i c m ≡ after (m c) 1
stepped_place i c m indirect auto = rw (indirect, auto) (updated_same m c (after (m c) 1))

-- the memory after a pointer in an auto-index cell was counted up
pub stepped_memory : (i : Bool) (c address : ℕ) (m next : Cells) → i ≡ true → is_auto_index c ≡ true → address ≡ place i c m → next ≡ updated m c address → next ≡ seen i c m
stepped_memory i c address m next indirect auto is stored =
    stored ∙ ap (λ a. updated m c a) (is ∙ stepped_place i c m indirect auto) ∙ rw (indirect, auto) refl

pub pointer_stepped : (i : Bool) (c address : ℕ) (m next : Cells) → steps_pointer i c ≡ true → address ≡ place i c m → next ≡ updated m c address → next ≡ seen i c m
pointer_stepped true c address m next auto is stored = stepped_memory true c address m next refl auto is stored
pointer_stepped false c address m next auto is stored = cc
