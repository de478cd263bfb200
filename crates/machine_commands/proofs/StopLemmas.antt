-- Where a run is stopped, event by event.
use Rattle.std.proofs.Common.{ℕ, zero, suc, ◌≡◌, ◌+◌, ◌<◌, ◌≤◌, Bool, true, false, List, ◌∷◌, length, drop, get_or, sym, ◌∙◌, ap, add-zero, zero-add, arith}
use Rattle.std.specs.Prelude.{is_none}
use Rattle.std.proofs.lemmas.List.{drop_more, drop_all}
use Rattle.instruct.specs.declared.Profile.{Profile}
use Rattle.command_parts.specs.declared.options.Stops.{Stops}
use Rattle.peripherals.specs.declared.Event.{Event}
use Rattle.peripherals.specs.declared.Event.TheVariants.{Step}
use Rattle.peripherals.specs.Devices.{WorldState}
use Rattle.peripherals.specs.Events.{Happens}
use Rattle.peripherals.specs.EventOutcomes.{seen_of}
use Rattle.machine_commands.specs.Follows.{goes_on}
use Rattle.processor.specs.Machine.{State}
use Rattle.machine_commands.specs.Stops.{StopsAfter, Here, Later, NeverStops, Over, Ends, Continues, is_asked_for, stops_before, visits_with}

-- so many of the events have passed: where the others stop, or never do, all of them do
pub record Passed (stops : Stops) (p : Profile) (ends : Bool) (es : List Event) (w : WorldState) (index visits : ℕ) (x : WorldState) : Type 0 where
  pub stop_later : (count : ℕ) → StopsAfter stops p ends visits (drop index es) x count → StopsAfter stops p ends 0 es w (index + count)
  pub never_later : NeverStops stops p ends visits (drop index es) x → NeverStops stops p ends 0 es w

pub passed_none : (stops : Stops) (p : Profile) (ends : Bool) (es : List Event) (w : WorldState) → Passed stops p ends es w 0 0 w
passed_none stops p ends es w = record {
  stop_later = λ count stop. rw (zero-add count) stop;
  never_later = λ never. never;
}

front_of : (es : List Event) (i : ℕ) (e : Event) → i < length es → e ≡ get_or es i Step → drop i es ≡ e ∷ drop (i + 1) es
front_of es i e within is = drop_more es i Step within ∙ ap (λ (x : Event). x ∷ drop (i + 1) es) (sym is)

pub passed_more : (stops : Stops) (p : Profile) (ends : Bool) (es : List Event) (w : WorldState) (i visits : ℕ) (e : Event) (x y : WorldState) →
    Passed stops p ends es w i visits x → i < length es → e ≡ get_or es i Step → stops_before stops p visits x e ≡ false → goes_on ends (seen_of p x e) ≡ true → Happens p x e y →
    Passed stops p ends es w (i + 1) (visits_with stops visits x e) y
passed_more stops p ends es w i visits e x y passed within is off goes happens = record {
  stop_later = λ count stop.
      let later : StopsAfter stops p ends visits (drop i es) x (suc count) = rw (front_of es i e within is) (Later visits count e (drop (i + 1) es) x y off goes happens stop) in
      let same : i + suc count ≡ i + 1 + count = omega arith in
      rw same at (passed.stop_later (suc count) later);
  never_later = λ never.
      passed.never_later (rw (front_of es i e within is) (Continues visits e (drop (i + 1) es) x y off goes happens never));
}

-- this event stops the run
pub stopped_here : (stops : Stops) (p : Profile) (ends : Bool) (es : List Event) (w : WorldState) (i visits : ℕ) (e : Event) (x : WorldState) →
    Passed stops p ends es w i visits x → i < length es → e ≡ get_or es i Step → stops_before stops p visits x e ≡ true → StopsAfter stops p ends 0 es w i
stopped_here stops p ends es w i visits e x passed within is on =
    let here : StopsAfter stops p ends visits (drop i es) x zero = rw (front_of es i e within is) (Here visits e (drop (i + 1) es) x on) in
    rw (add-zero i) at (passed.stop_later zero here)

-- this event ends it
pub ended_here : (stops : Stops) (p : Profile) (ends : Bool) (es : List Event) (w : WorldState) (i visits : ℕ) (e : Event) (x : WorldState) →
    Passed stops p ends es w i visits x → i < length es → e ≡ get_or es i Step → stops_before stops p visits x e ≡ false → goes_on ends (seen_of p x e) ≡ false → NeverStops stops p ends 0 es w
ended_here stops p ends es w i visits e x passed within is off ends_so =
    passed.never_later (rw (front_of es i e within is) (Ends visits e (drop (i + 1) es) x off ends_so))

-- there is no event left
pub never_stopped : (stops : Stops) (p : Profile) (ends : Bool) (es : List Event) (w : WorldState) (i visits : ℕ) (x : WorldState) →
    Passed stops p ends es w i visits x → length es ≤ i → NeverStops stops p ends 0 es w
never_stopped stops p ends es w i visits x passed past =
    passed.never_later (rw (drop_all i es past) (Over visits x))

-- a step of a machine that is not halted
pub step_asked : (stops : Stops) (p q : Profile) (visits : ℕ) (w : WorldState) (s : State) (e : Event) (asked : Bool) → e ≡ Step → is_none w.halted_at ≡ true → q ≡ p → s ≡ w.state →
    asked ≡ is_asked_for stops q visits s → asked ≡ stops_before stops p visits w e
step_asked stops p q visits w s e asked is runs profile state same = rw (is, runs) (rw (profile, state) at same)
