-- The machine: one instruction is one step from a state to another, with an answer of the devices or the switches.
-- The relation is the instruction table of the handbook, with a clause for each instruction.
use Rattle.std.specs.Prelude.{ℕ, ◌≡◌, ◌+◌, ◌/◌, ◌%◌, ◌<◌, ◌==◌, Bool, false, ◌&&◌, if◌then◌else◌, nat_le, bit_and, bit_or}
use Rattle.instruct.specs.declared.Profile.{Profile}
use Rattle.instruct.specs.Operates.{operate1_of, operate2_of, skips_of, mq_operate, reads_switches_of}
use Rattle.instruct.specs.Instructions.{Meaning, And, Tad, Isz, Dca, Jms, Jmp, Group1, Group2, Group3, Device, Undefined, DeviceAction, Skips, Ors, Clears, Takes, Leaves, meaning_of}
use Rattle.processor.specs.Cells.{Cells, updated}

-- The accumulator, the link, MQ, the program counter and the memory.
pub record State : Type 0 where
  pub ac : ℕ
  pub link : ℕ
  pub mq : ℕ
  pub pc : ℕ
  pub memory : Cells

-- What a step learns from outside: nothing, whether a flag is set, the byte of a buffer, or the word of the
-- switches.
pub data Answer : Type 0 where
  Silent : Answer
  Truth : Bool → Answer
  Byte : ℕ → Answer
  Switches : ℕ → Answer

-- The address a number of places further on, modulo 4096: 0000 comes after 7777.
abbrev pub after : ℕ → ℕ → ℕ
after pc more = (pc + more) % 4096

-- The auto-index cells, 0010 to 0017.
abbrev pub is_auto_index : ℕ → Bool
is_auto_index c = nat_le 8 c && nat_le c 15

-- An indirect reference through an auto-index cell first increments the pointer in it.
abbrev pub steps_pointer : Bool → ℕ → Bool
steps_pointer indirect c = indirect && is_auto_index c

-- The memory that the access sees: a pointer in an auto-index cell is incremented before it is
-- used.
abbrev pub seen : Bool → ℕ → Cells → Cells
seen indirect c memory = if steps_pointer indirect c then updated memory c (after (memory c) 1) else memory

-- The effective address: the named cell or, for an indirect reference, the word that is then in it.
abbrev pub place : Bool → ℕ → Cells → ℕ
place indirect c memory = if indirect then seen indirect c memory c else c

-- The word at the effective address.
abbrev pub operand : Bool → ℕ → Cells → ℕ
operand indirect c memory = seen indirect c memory (place indirect c memory)

-- The accumulator after a device word, and whether the word skips, as the table allows for some flag or some byte.
abbrev pub Answers : DeviceAction → ℕ → Answer → ℕ → Bool → Type 0
Answers Skips ac q ac' skip = (q ≡ Truth skip) × (ac' ≡ ac)
Answers Ors ac q ac' skip = (b : ℕ) × (b < 256) × (q ≡ Byte b) × (ac' ≡ bit_or ac b) × (skip ≡ false)
Answers Clears ac q ac' skip = (q ≡ Silent) × (ac' ≡ 0) × (skip ≡ false)
Answers Takes ac q ac' skip = (b : ℕ) × (b < 256) × (q ≡ Byte b) × (ac' ≡ b) × (skip ≡ false)
Answers Leaves ac q ac' skip = (q ≡ Silent) × (ac' ≡ ac) × (skip ≡ false)

-- The next instruction, or the one after it.
abbrev pub next_pc : ℕ → Bool → ℕ
next_pc pc skip = if skip then after pc 2 else after pc 1

-- From the state s, an instruction of this meaning may lead to the state t with the answer q.
abbrev pub Does : Meaning → State → Answer → State → Type 0
Does (And i c) s q t =
    (q ≡ Silent) ×
    (t ≡ record s {
      ac = bit_and s.ac (operand i c s.memory);
      pc = after s.pc 1;
      memory = seen i c s.memory;
    })
-- a carry out of the sum complements the link
Does (Tad i c) s q t =
    (q ≡ Silent) ×
    (t ≡ record s {
      ac = (s.ac + operand i c s.memory) % 4096;
      link = (s.link + (s.ac + operand i c s.memory) / 4096) % 2;
      pc = after s.pc 1;
      memory = seen i c s.memory;
    })
Does (Isz i c) s q t =
    (q ≡ Silent) ×
    (t ≡ record s {
      pc = next_pc s.pc (after (operand i c s.memory) 1 == 0);
      memory = updated (seen i c s.memory) (place i c s.memory) (after (operand i c s.memory) 1);
    })
Does (Dca i c) s q t =
    (q ≡ Silent) ×
    (t ≡ record s {
      ac = 0;
      pc = after s.pc 1;
      memory = updated (seen i c s.memory) (place i c s.memory) s.ac;
    })
-- the address after the JMS is stored, and the routine begins at the next cell
Does (Jms i c) s q t =
    (q ≡ Silent) ×
    (t ≡ record s {
      pc = after (place i c s.memory) 1;
      memory = updated (seen i c s.memory) (place i c s.memory) (after s.pc 1);
    })
Does (Jmp i c) s q t = (q ≡ Silent) × (t ≡ record s { pc = place i c s.memory; memory = seen i c s.memory })
Does (Group1 w) s q t =
    (q ≡ Silent) ×
    (t ≡ record s {
      ac = (operate1_of w (s.ac, s.link)).0;
      link = (operate1_of w (s.ac, s.link)).1;
      pc = after s.pc 1;
    })
-- the test comes first, on the old accumulator and link; the answer to OSR is the switches
Does (Group2 w) s q t =
    (v : ℕ) × (v < 4096) × (q ≡ (if reads_switches_of w then Switches v else Silent)) ×
    (t ≡ record s { ac = operate2_of w s.ac v; pc = next_pc s.pc (skips_of w s.ac s.link) })
Does (Group3 o) s q t =
    (q ≡ Silent) ×
    (t ≡ record s {
      ac = (mq_operate o (s.ac, s.mq)).0;
      mq = (mq_operate o (s.ac, s.mq)).1;
      pc = after s.pc 1;
    })
Does (Device action) s q t =
    (ac : ℕ) × (skip : Bool) × Answers action s.ac q ac skip × (t ≡ record s { ac = ac; pc = next_pc s.pc skip })
-- a word without a meaning leads nowhere
Does Undefined s q t = ⊥

-- The instruction at the program counter.
abbrev pub instruction : Profile → State → Meaning
instruction profile s = meaning_of profile s.pc (s.memory s.pc)

-- One step of a machine of this profile.
abbrev pub Step : Profile → State → Answer → State → Type 0
Step profile s q t = Does (instruction profile s) s q t
