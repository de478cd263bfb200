-- What the reader of a source's bytes answers.
use Rattle.std.specs.Prelude.{Bool, true, false, Result, Ok, Err}
use Rattle.streams.specs.declared.input.InputFault.{InputFault}
use Rattle.streams.specs.declared.input.InputFault.TheVariants.{ReadFailed, NoMemory}

-- The answer is that a read failed.
abbrev pub read_fails : {T : Type 0} → Result T InputFault → Bool
read_fails (Ok _) = false
read_fails (Err ReadFailed) = true
read_fails (Err NoMemory) = false
