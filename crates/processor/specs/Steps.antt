-- What contracts say about a processor and about what it is connected to.
use Rattle.std.specs.Prelude.{ℕ, ◌≡◌, Bool, true, false, if◌then◌else◌, Option, Some, None}
use Rattle.instruct.specs.declared.Profile.{Profile}
use Rattle.instruct.specs.Operates.{is_halt, reads_switches_of}
use Rattle.instruct.specs.Instructions.{Meaning, Group2, Device, Undefined, DeviceAction, meaning_of}
use Rattle.processor.specs.declared.Cpu.{Cpu}
use Rattle.processor.specs.declared.Outcome.{Outcome}
use Rattle.processor.specs.declared.Outcome.TheVariants.{Ran, Halted, Unsupported}
use Rattle.processor.specs.Cells.{cell_of}
use Rattle.processor.specs.Machine.{State, Answer, Silent, Switches, Answers, Does, Step, instruction}

-- The state that a processor stands for.
abbrev pub state_of : Cpu → State
state_of c = record { ac = c.ac; link = c.link; mq = c.mq; pc = c.pc; memory = cell_of c.memory }

-- The word that the cell at the program counter holds.
abbrev pub word_at_pc : Cpu → ℕ
word_at_pc c = cell_of c.memory c.pc

-- The meaning of the word at the program counter, on a machine of the processor's profile.
abbrev pub instruction_at_pc : Cpu → Meaning
instruction_at_pc c = instruction c.profile (state_of c)

-- The meaning that any word would have at the program counter, on a machine of the processor's
-- profile.
abbrev pub meaning_at_pc : Cpu → ℕ → Meaning
meaning_at_pc c word = meaning_of c.profile c.pc word

-- An instruction that needs no answer leads from one processor to the other.
abbrev pub LeadsTo : Meaning → Cpu → Cpu → Type 0
LeadsTo meaning before after = Does meaning (state_of before) Silent (state_of after)

-- The answer to a word of group 2: the switches if it reads them, and otherwise nothing.
abbrev pub switches_told : ℕ → ℕ → Answer
switches_told word switches = if reads_switches_of word then Switches switches else Silent

-- The answer that a step receives, given the bus's answer to a device word and its switches.
abbrev pub answer_taken : Meaning → Answer → ℕ → Answer
answer_taken (Device action) device switches = device
answer_taken (Group2 w) device switches = switches_told w switches
answer_taken _ device switches = Silent

-- The instruction halts the machine after it.
abbrev pub halts_after : Meaning → Bool
halts_after (Group2 w) = is_halt w
halts_after _ = false

-- What an outcome says about the states before and after it: a step with this answer, which halts the machine or not;
-- or no change, at a word without a meaning.
abbrev pub Happened : Outcome → Profile → State → Answer → State → Type 0
Happened Ran profile s q t = Step profile s q t × (halts_after (instruction profile s) ≡ false)
Happened Halted profile s q t = Step profile s q t × (halts_after (instruction profile s) ≡ true)
Happened (Unsupported word) profile s q t =
    (word ≡ s.memory s.pc) × (instruction profile s ≡ Undefined) × (t ≡ s)

-- A bus changes at a device word, and otherwise stays as it is.
abbrev pub BusAfter : Meaning → Type 0 → Type 0 → Type 0
BusAfter (Device action) goes_on stays = goes_on
BusAfter _ goes_on stays = stays

-- A device's answer to a word with this action.
abbrev pub DeviceAnswers : Option DeviceAction → ℕ → Answer → ℕ → Bool → Type 0
DeviceAnswers (Some action) ac q ac' skip = Answers action ac q ac' skip
DeviceAnswers None ac q ac' skip = ⊥
