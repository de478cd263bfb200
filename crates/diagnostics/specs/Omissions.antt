-- What a declaration leaves out, as the tape and the declaration show by themselves: the cell, the address or the entry that is named is
-- that of the instruction.
use Rattle.std.specs.Prelude.{ℕ, ◌≡◌, ◌↔◌, ◌+◌, ◌%◌, ◌⊎◌, Bool, true, false, List, Option, Some, None}
use Rattle.instruct.specs.Bits.{is_indirect, named_cell}
use Rattle.instruct.specs.Instructions.{Meaning, Isz, Dca, Jms, Jmp, instruction_of, kind_of, meaning_of}
use Rattle.instruct.specs.Operates.{is_halt}
use Rattle.instruct.specs.Skips.{may_skip, skip_condition_of}
use Rattle.instruct.specs.declared.Instruction.TheVariants.{Memory, Operate2, Unsupported as no_instruction}
use Rattle.instruct.specs.declared.Profile.TheVariants.{Pdp8E}
use Rattle.bin_tape.specs.Image.{word_at}
use Rattle.processor.specs.Machine.{is_auto_index}
use Rattle.declaration.specs.Declaration.{Declaration, Routine}
use Rattle.diagnostics.specs.declared.inputs.omissions.Omission.{Omission}
use Rattle.diagnostics.specs.declared.inputs.omissions.Omission.TheVariants as omission

-- The word at an address of the tape has this meaning on the declared machine.
pub record Means (image : List (Option ℕ)) (d : Declaration) (at : ℕ) (m : Meaning) : Type 0 where
  pub word : ℕ
  pub is : word_at image at ≡ Some word
  pub meaning : meaning_of d.profile at word ≡ m

-- The instruction at an address stores into the cell that it names.
abbrev pub Stores : List (Option ℕ) → Declaration → ℕ → ℕ → Type 0
Stores image d at cell = Means image d at (Dca false cell) ⊎ Means image d at (Isz false cell)

-- It stores into a cell that is not a variable, nor its routine's own entry.
pub record StoresElsewhere (image : List (Option ℕ)) (d : Declaration) (at cell : ℕ) : Type 0 where
  pub stores : Stores image d at cell
  pub variable : d.variable cell ≡ false
  pub own : d.body (Some cell) at ≡ false

-- It is a DCA into its routine's own entry, in which the routine is not declared to store.
pub record MovesEntry (image : List (Option ℕ)) (d : Declaration) (at entry : ℕ) : Type 0 where
  pub stores : Means image d at (Dca false entry)
  pub own : d.body (Some entry) at ≡ true
  pub moves : d.moves entry ≡ false

-- The instruction at an address calls the address that it names, which is not an entry.
pub record CallsNoEntry (image : List (Option ℕ)) (d : Declaration) (at place : ℕ) : Type 0 where
  pub calls : Means image d at (Jms false place)
  pub entry : d.entry place ≡ false

-- The instruction at an address jumps to the address that it names, which is not in its routine's body, and for which no calls are
-- abandoned.
pub record JumpsOut (image : List (Option ℕ)) (d : Declaration) (r : Routine) (at place : ℕ) : Type 0 where
  pub jumps : Means image d at (Jmp false place)
  pub outside : d.body r place ≡ false
  pub abandon : d.abandon place ≡ false

-- The instruction at an address refers to memory by the pointer that it names, and so increments it, since it is one of the cells
-- 0010 to 0017; and that is not a variable.
pub record StepsPointer (image : List (Option ℕ)) (d : Declaration) (at cell : ℕ) : Type 0 where
  pub word : ℕ
  pub is : word_at image at ≡ Some word
  pub refers : kind_of (meaning_of d.profile at word) ≡ Memory
  pub indirect : is_indirect word ≡ true
  pub named : cell ≡ named_cell word at
  pub index : is_auto_index cell ≡ true
  pub variable : d.variable cell ≡ false

-- The word at an address is none of the declared machine, and one of a PDP-8/E or none of it either.
pub record IsNoInstruction (image : List (Option ℕ)) (d : Declaration) (at : ℕ) (of_8e : Bool) : Type 0 where
  pub word : ℕ
  pub is : word_at image at ≡ Some word
  pub here : instruction_of d.profile word ≡ no_instruction
  pub there : (instruction_of Pdp8E word ≡ no_instruction) ↔ (of_8e ≡ false)

-- The word at an address is a HLT.
pub record IsHalt (image : List (Option ℕ)) (d : Declaration) (at : ℕ) : Type 0 where
  pub word : ℕ
  pub is : word_at image at ≡ Some word
  pub kind : instruction_of d.profile word ≡ Operate2
  pub halts : is_halt word ≡ true

-- The operator may go on behind a pause at an address, at the next one, since the word there never skips; and the next one is not in the
-- routine's body.
pub record GoesOut (image : List (Option ℕ)) (d : Declaration) (r : Routine) (at next : ℕ) : Type 0 where
  pub halt : IsHalt image d at
  pub skips : may_skip (skip_condition_of halt.word) ≡ false
  pub pause : d.pause at ≡ true
  pub next_is : next ≡ (at + 1) % 4096
  pub outside : d.body r next ≡ false

-- There is a HLT at an address, and no halt is declared there.
pub record IsUndeclaredHalt (image : List (Option ℕ)) (d : Declaration) (at : ℕ) : Type 0 where
  pub halt : IsHalt image d at
  pub stop : d.stop at ≡ false
  pub pause : d.pause at ≡ false

-- What is omitted of the instruction at an address in a routine's body names the cell or the address to which the instruction refers,
-- or at which the operator goes on, and what is declared of that is not what the instruction needs. Which of the remedies is advised
-- is only tested.
abbrev pub IsViolation : List (Option ℕ) → Declaration → Routine → ℕ → Omission → Type 0
IsViolation image d r at omission.NoWord = word_at image at ≡ None
IsViolation image d r at omission.Unsupported = IsNoInstruction image d at false
IsViolation image d r at omission.OfThe8e = IsNoInstruction image d at true
IsViolation image d r at (omission.Stores cell) = StoresElsewhere image d at cell × (d.entry cell ≡ false)
IsViolation image d r at (omission.StoresInEntry cell) = StoresElsewhere image d at cell × (d.entry cell ≡ true)
IsViolation image d r at (omission.StoresInOwn entry) = MovesEntry image d at entry
IsViolation image d r at (omission.Steps cell) = StepsPointer image d at cell
IsViolation image d r at (omission.Calls place) = CallsNoEntry image d at place
IsViolation image d r at (omission.CallsIntoBody place) = CallsNoEntry image d at place
IsViolation image d r at (omission.CallsAutoIndex place) = CallsNoEntry image d at place × (is_auto_index place ≡ true)
IsViolation image d r at (omission.Jumps place) = JumpsOut image d r at place
IsViolation image d r at (omission.JumpsAcross place) = JumpsOut image d r at place
IsViolation image d r at (omission.JumpsToMain place) = JumpsOut image d r at place × (d.body None place ≡ true)
IsViolation image d r at omission.Halts = IsUndeclaredHalt image d at
IsViolation image d r at (omission.GoesOn next) = GoesOut image d r at next
IsViolation image d r at (omission.GoesAcross next) = GoesOut image d r at next

-- Such an instruction stands in a body, and its cell is no variable.
pub record IsOmitted (image : List (Option ℕ)) (d : Declaration) (at : ℕ) (o : Omission) : Type 0 where
  pub routine : Routine
  pub inside : d.body routine at ≡ true
  pub variable : d.variable at ≡ false
  pub violation : IsViolation image d routine at o

-- The tape has a word at an address, if that is a cell of a body and no variable.
abbrev pub IsOnTape : List (Option ℕ) → Declaration → ℕ → Type 0
IsOnTape image d at = (r : Routine) → d.body r at ≡ true → d.variable at ≡ false → word_at image at ≡ None → ⊥
