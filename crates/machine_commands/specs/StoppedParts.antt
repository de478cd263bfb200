-- What a run by a schedule leaves that may be stopped. Private contracts alone cite this.
use Rattle.std.specs.Prelude.{ℕ, ◌≡◌, Bool, true, false, List, Option, Some, None}
use Rattle.std.specs.Io.KnownBytes.{Appends}
use Rattle.instruct.specs.declared.Profile.{Profile}
use Rattle.peripherals.specs.declared.Event.{Event}
use Rattle.peripherals.specs.Devices.{WorldState}
use Rattle.command_parts.specs.declared.options.Stops.{Stops}
use Rattle.machine_commands.specs.declared.follow.End.{End}
use Rattle.machine_commands.specs.declared.follow.RunOutcome.{RunOutcome}
use Rattle.machine_commands.specs.Follows.{Follows}
use Rattle.machine_commands.specs.Last.{told}
use Rattle.machine_commands.specs.Schedule.{Extent}
use Rattle.machine_commands.specs.Session.{printed_in}
use Rattle.machine_commands.specs.StoppedSession.{StoppedSo, extent_to_stop, leaving, to_stop}
use Rattle.machine_commands.specs.Stops.{stops_before, visits_with}
use Rattle.machine_commands.specs.Trace.{traced}

-- An event in w stops the run, where so many steps before it came to the address; or it does not, and so many came there with it.
abbrev pub Passes : Stops → Profile → ℕ → WorldState → Event → Option ℕ → Type 0
Passes stops profile visits w e None = stops_before stops profile visits w e ≡ true
Passes stops profile visits w e (Some more) = (stops_before stops profile visits w e ≡ false) × (more ≡ visits_with stops visits w e)

-- A run came to its end in x, or it was stopped there, or a key interrupted it: the trace, if one was requested, and the characters that
-- were printed were appended.
pub record OperatedToStop (comes : Extent → List Event → Type 0) (left : Bool) (stops : Stops) (profile : Profile) (trace : Bool) (w : WorldState) (outcome : RunOutcome) (x : WorldState) (old new told_old told_new : Option (List ℕ)) : Type 0 where
  pub events : List Event
  pub stopped : Bool
  pub come : comes (extent_to_stop stopped) (to_stop stopped events)
  pub stop : StoppedSo stops profile stopped events w
  pub lines : List ℕ
  pub last : End
  pub follows : Follows profile true events w lines outcome.steps last x
  pub ends : outcome.end ≡ leaving left (told stopped last x) x
  pub wrote : Appends old new (traced trace lines)
  pub printed : Appends told_old told_new (printed_in x)
