-- What a word does as an instruction, and which cells a routine may write.
use Rattle.std.specs.Prelude.{◌≡◌, ℕ, Bool, true, false, ◌&&◌, ◌⊎◌, if◌then◌else◌, Option, Some, None}
use Rattle.instruct.specs.declared.Operation.{Operation}
use Rattle.instruct.specs.declared.Operation.TheVariants as operation
use Rattle.instruct.specs.Instructions.{Meaning, Jms, Jmp}
use Rattle.wordset.specs.Words.{Words}
use Rattle.processor.specs.Machine.{steps_pointer}
use Rattle.declaration.specs.Declaration.{Routine, Declaration}

-- AND, TAD and ISZ read their operand.
abbrev pub reads_operand : Operation → Bool
reads_operand operation.And = true
reads_operand operation.Tad = true
reads_operand operation.Isz = true
reads_operand _ = false

-- ISZ and DCA store where they refer to.
abbrev pub stores : Operation → Bool
stores operation.Isz = true
stores operation.Dca = true
stores _ = false

-- ISZ counts up.
abbrev pub counts : Operation → Bool
counts operation.Isz = true
counts _ = false

-- DCA deposits.
abbrev pub deposits : Operation → Bool
deposits operation.Dca = true
deposits _ = false

-- JMS calls.
abbrev pub calls : Operation → Bool
calls operation.Jms = true
calls _ = false

-- JMP jumps.
abbrev pub jumps : Operation → Bool
jumps operation.Jmp = true
jumps _ = false

-- The word is a JMS.
abbrev pub is_call : Meaning → Bool
is_call (Jms i c) = true
is_call _ = false

-- The word is a JMP.
abbrev pub is_jump : Meaning → Bool
is_jump (Jmp i c) = true
is_jump _ = false

-- A JMS through an auto-index cell, which it steps first.
abbrev pub calls_through_index : Meaning → Bool
calls_through_index (Jms i c) = steps_pointer i c
calls_through_index _ = false

-- The entry through which a JMP I returns.
abbrev pub returned_through : Declaration → Meaning → Option ℕ
returned_through d (Jmp i c) = if i && d.entry c then Some c else None
returned_through d _ = None

-- In a routine a cell may be written where it is in the routine's written set or is its own entry; in main always.
abbrev pub MayWrite : Words → Routine → ℕ → Type 0
MayWrite writes None a = Unit {0}
MayWrite writes (Some e) a = (writes a ≡ true) ⊎ (a ≡ e)
