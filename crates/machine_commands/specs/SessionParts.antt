-- One event of an operator's run, and what a run leaves. Private contracts alone cite this.
use Rattle.std.specs.Prelude.{ℕ, ◌≡◌, ◌+◌, ◌*◌, Bool, true, false, List, [], ◌∷◌, Option, Some, None, drop, length, map}
use Rattle.std.specs.Io.KnownBytes.{Appends}
use Rattle.instruct.specs.declared.Profile.{Profile}
use Rattle.peripherals.specs.declared.Event.{Event}
use Rattle.peripherals.specs.declared.Event.TheVariants.{Step, Key, PrinterDone, ReaderDone, PunchDone, Switches, Continue}
use Rattle.peripherals.specs.declared.Seen.{Seen}
use Rattle.peripherals.specs.Devices.{WorldState}
use Rattle.peripherals.specs.Events.{Happens}
use Rattle.peripherals.specs.Operator.{Plan, plan_of}
use Rattle.peripherals.specs.declared.operator.Operator.{Operator}
use Rattle.peripherals.specs.EventOutcomes.{seen_of}
use Rattle.machine_commands.specs.Follows.{goes_on}
use Rattle.machine_commands.specs.Schedule.{Extent, Place}
use Rattle.machine_commands.specs.Session.{character}
use Rattle.machine_commands.specs.Trace.{trace_of, traced}

-- The event is a step of the machine.
abbrev pub is_step : Event → Bool
is_step Step = true
is_step _ = false

-- The characters that were printed between two worlds.
abbrev pub printed_from : WorldState → WorldState → List ℕ
printed_from w x = map character (drop (length w.devices.printer.output) x.devices.printer.output)

-- An event happened, and its line and its character went out.
pub record Played (profile : Profile) (trace : Bool) (w : WorldState) (e : Event) (what : Seen) (x : WorldState) (old new told tells : Option (List ℕ)) : Type 0 where
  pub happens : Happens profile w e x
  pub sees : what ≡ seen_of profile w e
  pub wrote : Appends old new (traced trace (trace_of profile w e x))
  pub printed : Appends told tells (printed_from w x)

-- An instruction counts as one step.
abbrev pub steps_in : Event → ℕ
steps_in Step = 1
steps_in _ = 0

-- An event is due, and leads from one state of a schedule to the next: whatever comes after it comes with it, and the run ends
-- with it where it does not go on.
pub record IsNext {S : Type 0} (comes : S → Profile → WorldState → Extent → List Event → Type 0) (s t : S) (w : WorldState) (e : Event) : Type 0 where
  pub on : (p : Profile) (m : WorldState) (extent : Extent) (es : List Event) →
      goes_on true (seen_of p w e) ≡ true → Happens p w e m → comes t p m extent es → comes s p w extent (e ∷ es)
  pub last : (p : Profile) (extent : Extent) → goes_on true (seen_of p w e) ≡ false → comes s p w extent (e ∷ [])

-- The last event was an instruction.
abbrev pub has_stepped : Option Event → Bool
has_stepped (Some Step) = true
has_stepped _ = false

-- Where an operator is.
abbrev pub place_of : Operator → Place
place_of o = record { plan = plan_of o; last = o.last }

-- how many events may come at most in the round that has begun
abbrev pub rank : Option Event → ℕ
rank None = 1
rank (Some Step) = 4
rank (Some PrinterDone) = 3
rank (Some PunchDone) = 2
rank (Some (ReaderDone frame)) = 1
rank (Some (Key key)) = 0
rank (Some (Switches word)) = 0
rank (Some Continue) = 0

-- how many events may come at most
abbrev pub events_left : Plan → Option Event → ℕ
events_left plan last = plan.rounds * 5 + rank last
