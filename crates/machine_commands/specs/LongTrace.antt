-- The run of a tape behind its long trace, of whose lines nothing is said here.
use Rattle.std.specs.Prelude.{ℕ, ◌≡◌, ◌++◌, Bool, false, List, Option, None}
use Rattle.std.specs.Io.KnownBytes.{Appends}
use Rattle.peripherals.specs.declared.Event.{Event}
use Rattle.command_parts.specs.declared.options.RunOptions.{RunOptions}
use Rattle.command_parts.specs.declared.options.Stops.{Stops}
use Rattle.command_parts.specs.declared.status.Status.{Status}
use Rattle.machine_commands.specs.Stopping.{IsRunWithStops}

-- Some text was appended.
pub record Appended (old new : Option (List ℕ)) : Type 0 where
  pub text : List ℕ
  pub wrote : Appends old new text

-- How a run is made without a trace.
abbrev pub quiet : RunOptions → RunOptions
quiet options = record options { trace = false }

-- The text is any text, and after it that of the run of these events without a trace, up to where it is stopped.
pub record IsRunBehind (options : RunOptions) (stops : Stops) (ends_at_halt : Bool) (events : List Event) (image : List (Option ℕ)) (text : List ℕ) (status : Status) : Type 0 where
  pub lines : List ℕ
  pub rest : List ℕ
  pub run : IsRunWithStops (quiet options) stops None ends_at_halt events image rest status
  pub text_is : text ≡ lines ++ rest
