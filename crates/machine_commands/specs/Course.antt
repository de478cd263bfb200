-- What a run goes through, and how far it came.
use Rattle.std.specs.Prelude.{ℕ, ◌≡◌, ◌<◌, ◌+◌, ◌==◌, Bool, true, false, if◌then◌else◌, List, ◌++◌, Option, get_or, length, take}
use Rattle.std.specs.Io.KnownBytes.{Appends}
use Rattle.instruct.specs.declared.Profile.{Profile}
use Rattle.peripherals.specs.declared.Event.{Event}
use Rattle.peripherals.specs.declared.Event.TheVariants.{Step, PrinterDone, PunchDone}
use Rattle.peripherals.specs.Devices.{WorldState}
use Rattle.peripherals.specs.EventOutcomes.{puts_out}
use Rattle.machine_commands.specs.declared.follow.End.{End}
use Rattle.machine_commands.specs.declared.follow.Course.{Course}
use Rattle.machine_commands.specs.declared.follow.Course.TheVariants.{Rounds, Listed}
use Rattle.machine_commands.specs.declared.follow.RunOutcome.{RunOutcome}
use Rattle.machine_commands.specs.Follows.{Follows, rounds}
use Rattle.machine_commands.specs.Trace.{trace_of, traced}

-- The events of a course.
abbrev pub events_in : Course → List Event
events_in (Rounds count) = rounds count
events_in (Listed events) = events.now

-- A halt ends rounds, and no list of events.
abbrev pub ends_at_halt : Course → Bool
ends_at_halt (Rounds count) = true
ends_at_halt (Listed events) = false

-- The events of a round, by their index in it.
abbrev pub event_of_round : ℕ → Event
event_of_round index = if index == 0 then Step else (if index == 1 then PrinterDone else PunchDone)

-- From w these events led to x, so far and to this end; the trace, if one was requested, was appended.
pub record Ran (profile : Profile) (ends_at_halt trace : Bool) (events : List Event) (w : WorldState) (outcome : RunOutcome) (x : WorldState) (old new : Option (List ℕ)) : Type 0 where
  pub lines : List ℕ
  pub follows : Follows profile ends_at_halt events w lines outcome.steps outcome.end x
  pub wrote : Appends old new (traced trace lines)

-- From w the events before one that prints or punches led to x; their trace, if one was requested, was appended.
pub record RanToOutput (profile : Profile) (ends_at_halt trace : Bool) (events : List Event) (w x : WorldState) (old new : Option (List ℕ)) : Type 0 where
  pub count : ℕ
  pub within : count < length events
  pub lines : List ℕ
  pub steps : ℕ
  pub end : End
  pub follows : Follows profile ends_at_halt (take count events) w lines steps end x
  pub puts : puts_out x (get_or events count Step) ≡ true
  pub wrote : Appends old new (traced trace lines)

-- From w the events before one led to a world, and with that one they led to x. Their trace was appended, and a prefix of
-- the line of that one: a part of it or nothing, but not all.
pub record RanIntoLine (profile : Profile) (ends_at_halt : Bool) (events : List Event) (w x : WorldState) (old new : Option (List ℕ)) : Type 0 where
  pub count : ℕ
  pub within : count < length events
  pub before : WorldState
  pub lines : List ℕ
  pub steps_before : ℕ
  pub end_before : End
  pub led : Follows profile ends_at_halt (take count events) w lines steps_before end_before before
  pub line : List ℕ
  pub line_is : line ≡ trace_of profile before (get_or events count Step) x
  pub steps : ℕ
  pub end : End
  pub follows : Follows profile ends_at_halt (take (count + 1) events) w (lines ++ line) steps end x
  pub written : ℕ
  pub part : written < length line
  pub wrote : Appends old new (lines ++ take written line)
