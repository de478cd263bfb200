-- Each event leaves the machine's state, or is one step of it.
use Rattle.std.proofs.Common.{ℕ, ◌≡◌, inl, inr, true, Option, Some, None, List, [], ◌∷◌, ◌++◌, if◌then◌else◌, refl, sym, ap, subst}
use Rattle.std.specs.Prelude.{is_none, ◌&&◌}
use Rattle.instruct.specs.declared.Profile.{Profile}
use Rattle.instruct.specs.Instructions.{Meaning, Undefined, And, Tad, Isz, Dca, Jms, Jmp, Group1, Group2, Group3, Device}
use Rattle.processor.specs.Machine.{State, Answer, Step, Does, instruction}
use Rattle.processor.specs.Runs.{Taken, Run}
use Rattle.peripherals.specs.declared.Event.{Event}
use Rattle.peripherals.specs.declared.Event.TheVariants.{Key, PrinterDone, ReaderDone, PunchDone, Switches, Continue}
use Rattle.peripherals.specs.declared.Event.TheVariants as event
use Rattle.peripherals.specs.Devices.{WorldState, answer_of}
use Rattle.peripherals.specs.Events.{Happens, Steps}
use Rattle.peripherals.specs.Runs.{EventsAreRuns, stepped_from, states_before, is_supported}

-- the state stays and no step was carried out, or one was
pub data Moves (profile : Profile) (w : WorldState) (before : List State) (x : WorldState) : Type 0 where
  Stays : x.state ≡ w.state → before ≡ [] → Moves profile w before x
  Moved : (q : Answer) → Step profile w.state q x.state → before ≡ w.state ∷ [] → Moves profile w before x

supported_of : (m : Meaning) (s t : State) (q : Answer) → Does m s q t → is_supported m ≡ true
supported_of (And i c) s t q does = refl
supported_of (Tad i c) s t q does = refl
supported_of (Isz i c) s t q does = refl
supported_of (Dca i c) s t q does = refl
supported_of (Jms i c) s t q does = refl
supported_of (Jmp i c) s t q does = refl
supported_of (Group1 w) s t q does = refl
supported_of (Group2 w) s t q does = refl
supported_of (Group3 o) s t q does = refl
supported_of (Device a) s t q does = refl
supported_of Undefined s t q does = absurd does

step_moves : (profile : Profile) (w x : WorldState) (halted : Option ℕ) → w.halted_at ≡ halted → Steps profile w x →
    Moves profile w (if is_none halted && is_supported (instruction profile w.state) then w.state ∷ [] else []) x
step_moves profile w x (Some at) halted steps = Stays (ap (λ (v : WorldState). v.state) (steps.halted at halted)) refl
step_moves profile w x None running steps = elim (steps.runs running) [
  | inl out ↦ Moved (answer_of profile w) out.step (rw (supported_of (instruction profile w.state) w.state x.state (answer_of profile w) out.step) refl)
  | inr none ↦ Stays (ap (λ (v : WorldState). v.state) none.1) (rw none.0 refl)
]

moves : (profile : Profile) (w x : WorldState) (e : Event) → Happens profile w e x → Moves profile w (stepped_from profile w e) x
moves profile w x event.Step steps = step_moves profile w x w.halted_at refl steps
moves profile w x (Key b) happens = Stays (ap (λ (v : WorldState). v.state) happens.1) refl
moves profile w x PrinterDone happens = Stays (ap (λ (v : WorldState). v.state) happens) refl
moves profile w x (ReaderDone b) happens = Stays (ap (λ (v : WorldState). v.state) happens.1) refl
moves profile w x PunchDone happens = Stays (ap (λ (v : WorldState). v.state) happens) refl
moves profile w x (Switches v) happens = Stays (ap (λ (v : WorldState). v.state) happens.1) refl
moves profile w x Continue happens = Stays (ap (λ (v : WorldState). v.state) happens) refl

abbrev IsRun : Profile → State → List State → State → Type 0
IsRun profile s before t = (taken : List Taken) × (states_before taken ≡ before) × Run profile s taken t

further : (profile : Profile) (w m : WorldState) (t : State) (first later : List State) → Moves profile w first m → IsRun profile m.state later t → IsRun profile w.state (first ++ later) t
further profile w m t first later (Stays same none) run =
    let P : State → Type 0 = λ s. Run profile s run.0 t in
    (run.0, rw none run.1, subst P same run.2)
further profile w m t first later (Moved q step one) run =
    (record { before = w.state; answer = q } ∷ run.0, rw one (ap (λ (l : List State). w.state ∷ l) run.1), (refl, m.state, step, run.2))

pub events_are_runs : EventsAreRuns
events_are_runs profile [] w x before (same, none) =
    let P : State → Type 0 = λ s. w.state ≡ s in
    ([], sym none, ap (λ (v : WorldState). v.state) same)
events_are_runs profile (e ∷ es) w x before (m, later, happens, rest, split) =
    rw split (further profile w m x.state (stepped_from profile w e) later (moves profile w m e happens) (events_are_runs profile es m x later rest))
