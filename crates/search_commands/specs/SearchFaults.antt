-- The faults that a search may have.
use Rattle.std.specs.Prelude.{ℕ, List}
use Rattle.declaration.specs.declared.DeclarationFault.TheVariants as declaration_fault
use Rattle.turns.specs.declared.GuessFault.TheVariants as guess_fault
use Rattle.turns.specs.declared.ProposeFault.TheVariants as propose_fault
use Rattle.command_parts.specs.Answers.{IsMemoryFault}
use Rattle.command_parts.specs.Faults.{IsDeclarationFault}
use Rattle.command_parts.specs.declared.status.Fault.{Fault}
use Rattle.command_parts.specs.declared.status.Fault.TheVariants.{Guess, Declare, Declared}

-- Nothing was found, or memory was refused.
abbrev pub IsSearchFault : Fault → Type 0
IsSearchFault (Guess guess_fault.NoMemory) = ⊥
IsSearchFault (Guess fault) = Unit {0}
IsSearchFault fault = IsMemoryFault fault

-- What was found cannot be declared, or memory was refused.
abbrev pub IsProposeFault : Fault → Type 0
IsProposeFault (Declare propose_fault.NoMemory) = ⊥
IsProposeFault (Declare (propose_fault.Undeclarable declaration_fault.NoMemory)) = ⊥
IsProposeFault (Declare fault) = Unit {0}
IsProposeFault fault = IsMemoryFault fault

-- The text has this fault as a declaration, or memory was refused.
abbrev pub IsRefineFault : List ℕ → Fault → Type 0
IsRefineFault text (Declared fault) = IsDeclarationFault text fault
IsRefineFault text fault = IsMemoryFault fault
