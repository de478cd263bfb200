-- What a run writes that is stopped.
use Rattle.std.proofs.Common.{ℕ, zero, suc, ◌≡◌, ◌/◌, ◌<◌, Bool, true, List, ◌∷◌, length, take, get_or, refl, ap, arith}
use Rattle.std.specs.Prelude.{Option, Result, Ok, Err, IfOk}
use Rattle.std.proofs.lemmas.Bool.{false≢true}
use Rattle.instruct.specs.declared.Profile.{Profile}
use Rattle.peripherals.specs.declared.Event.{Event}
use Rattle.peripherals.specs.declared.Event.TheVariants.{Step, Key, PrinterDone, ReaderDone, PunchDone, Switches, Continue}
use Rattle.peripherals.specs.Devices.{WorldState}
use Rattle.command_parts.specs.declared.options.RunOptions.{RunOptions}
use Rattle.command_parts.specs.declared.options.Stops.{Stops}
use Rattle.command_parts.specs.declared.status.Fault.{Fault}
use Rattle.command_parts.specs.declared.status.Status.{Status}
use Rattle.command_parts.specs.Writes.{Writes}
use Rattle.machine_commands.specs.declared.follow.End.TheVariants as end
use Rattle.machine_commands.specs.Follows.{rounds}
use Rattle.machine_commands.specs.Running.{IsRunTold, fresh}
use Rattle.machine_commands.specs.Last.{IsCut}
use Rattle.machine_commands.specs.Stopping.{IsRunWithStops}
use Rattle.machine_commands.specs.Stops.{Here, Later, StopsAfter, stops_before, visits_with}
use Rattle.machine_commands.proofs.FollowLemmas.{rounds_length}

-- only a step stops a run
pub step_of : (stops : Stops) (p : Profile) (visits : ℕ) (w : WorldState) (e : Event) → stops_before stops p visits w e ≡ true → e ≡ Step
step_of stops p visits w Step h = refl
step_of stops p visits w (Key byte) h = absurd (false≢true h)
step_of stops p visits w PrinterDone h = absurd (false≢true h)
step_of stops p visits w (ReaderDone byte) h = absurd (false≢true h)
step_of stops p visits w PunchDone h = absurd (false≢true h)
step_of stops p visits w (Switches word) h = absurd (false≢true h)
step_of stops p visits w Continue h = absurd (false≢true h)

pub stop_within : (stops : Stops) (p : Profile) (ends : Bool) (visits : ℕ) (es : List Event) (w : WorldState) (count : ℕ) → StopsAfter stops p ends visits es w count → count < length es
stop_within stops p ends visits es w count (Here _ e fs _ on) = omega arith
stop_within stops p ends visits es w count (Later _ k e fs _ m off goes happens later) =
    let within : k < length fs = stop_within stops p ends (visits_with stops visits w e) fs m k later in
    omega (arith, within)

pub stop_step : (stops : Stops) (p : Profile) (ends : Bool) (visits : ℕ) (es : List Event) (w : WorldState) (count : ℕ) → StopsAfter stops p ends visits es w count → get_or es count Step ≡ Step
stop_step stops p ends visits es w count (Here _ e fs _ on) = step_of stops p visits w e on
stop_step stops p ends visits es w count (Later _ k e fs _ m off goes happens later) = stop_step stops p ends (visits_with stops visits w e) fs m k later

-- rounds up to a step are whole rounds
pub first_rounds : (n k : ℕ) → k < length (rounds n) → get_or (rounds n) k Step ≡ Step → rounds (k / 3) ≡ take k (rounds n)
unfolding rounds
first_rounds zero k within is = absurd (omega arith)
first_rounds (suc n) zero within is = refl
first_rounds (suc n) (suc zero) within is = cc
first_rounds (suc n) (suc (suc zero)) within is = cc
first_rounds (suc n) (suc (suc (suc k))) within is =
    let long = rounds_length n in
    let longer = rounds_length (suc n) in
    let inside : k < length (rounds n) = omega (arith, within, long, longer) in
    let third : suc (suc (suc k)) / 3 ≡ suc (k / 3) = omega arith in
    rw third (ap (λ (es : List Event). Step ∷ PrinterDone ∷ PunchDone ∷ es) (first_rounds n k inside is))

-- the run of a part is that of a run with stops
pub ok_with_cut : (options : RunOptions) (stops : Stops) (shown : Option ℕ) (ends : Bool) (events cut : List Event) (stopped : Bool) (image : List (Option ℕ)) (r : Result Status Fault) (old new : Option (List ℕ)) →
    IsCut stops options ends events cut (fresh image options.start) stopped → IfOk r (λ status. Writes (λ text. IsRunTold options shown stopped ends cut image text status) old new) →
    IfOk r (λ status. Writes (λ text. IsRunWithStops options stops shown ends events image text status) old new)
ok_with_cut options stops shown ends events cut stopped image (Ok status) old new is_cut wrote = record {
  text = wrote.text;
  is = record { cut = cut; stopped = stopped; is_cut = is_cut; is = wrote.is };
  written = wrote.written;
}
ok_with_cut options stops shown ends events cut stopped image (Err fault) old new is_cut wrote = tt
