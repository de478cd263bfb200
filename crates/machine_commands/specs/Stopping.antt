-- The run of a tape that may be stopped, and what it writes.
use Rattle.std.specs.Prelude.{ℕ, Bool, List, Option}
use Rattle.peripherals.specs.declared.Event.{Event}
use Rattle.command_parts.specs.declared.options.RunOptions.{RunOptions}
use Rattle.command_parts.specs.declared.options.Stops.{Stops}
use Rattle.command_parts.specs.declared.status.Status.{Status}
use Rattle.machine_commands.specs.Last.{IsCut}
use Rattle.machine_commands.specs.Running.{IsRunTold, fresh}

-- From an image the run of these events, or of those before the step that stops it, is told so, with the trace, if it is requested, or the
-- last lines of it, if so many or all of these are.
pub record IsRunWithStops (options : RunOptions) (stops : Stops) (shown : Option ℕ) (ends_at_halt : Bool) (events : List Event) (image : List (Option ℕ)) (text : List ℕ) (status : Status) : Type 0 where
  pub cut : List Event
  pub stopped : Bool
  pub is_cut : IsCut stops options ends_at_halt events cut (fresh image options.start) stopped
  pub is : IsRunTold options shown stopped ends_at_halt cut image text status
