-- The last lines of a trace, and the part of a run up to where it is stopped.
use Rattle.std.specs.Prelude.{ℕ, ◌≡◌, ◌-◌, ◌==◌, Bool, true, false, if◌then◌else◌, ◌⊎◌, List, [], ◌∷◌, take}
use Rattle.std.proofs.Common.{zero, suc}
use Rattle.peripherals.specs.declared.Event.{Event}
use Rattle.peripherals.specs.Devices.{WorldState}
use Rattle.command_parts.specs.declared.options.RunOptions.{RunOptions}
use Rattle.command_parts.specs.declared.options.Stops.{Stops}
use Rattle.machine_commands.specs.declared.follow.End.{End}
use Rattle.machine_commands.specs.declared.follow.End.TheVariants as end
use Rattle.machine_commands.specs.Stops.{NeverStops, StopsAfter}

-- How many lines a text has, each of which ends with a line feed.
abbrev pub lines_in : List ℕ → ℕ
lines_in [] = 0
lines_in (c ∷ cs) = if c == 10 then suc (lines_in cs) else lines_in cs

-- A text without so many lines at its front.
abbrev pub without_lines : ℕ → List ℕ → List ℕ
without_lines zero text = text
without_lines (suc n) [] = []
without_lines (suc n) (c ∷ cs) = if c == 10 then without_lines n cs else without_lines (suc n) cs

-- The last lines of a text, so many or all that there are.
abbrev pub last_lines : ℕ → List ℕ → List ℕ
last_lines n text = without_lines (lines_in text - n) text

-- From w the run of these events is stopped before the events behind the first ones; or it is not stopped, and these are all.
abbrev pub IsCut : Stops → RunOptions → Bool → List Event → List Event → WorldState → Bool → Type 0
IsCut stops options ends_at_halt events cut w stopped =
    ((count : ℕ) × StopsAfter stops options.profile ends_at_halt 0 events w count × (cut ≡ take count events) × (stopped ≡ true))
    ⊎ (NeverStops stops options.profile ends_at_halt 0 events w × (cut ≡ events) × (stopped ≡ false))

-- How a run is said to have ended: where the program counter is, if it was stopped, and else as it ended.
abbrev pub told : Bool → End → WorldState → End
told true last x = end.Stopped x.state.pc
told false last x = last
