-- Event lists as runs of the instruction table.
use Rattle.std.specs.Prelude.{◌≡◌, Bool, true, false, ◌&&◌, if◌then◌else◌, is_none, List, [], ◌∷◌, ◌++◌}
use Rattle.instruct.specs.declared.Profile.{Profile}
use Rattle.instruct.specs.Instructions.{Meaning, Undefined}
use Rattle.processor.specs.Machine.{State, instruction}
use Rattle.processor.specs.Runs.{Taken, Run}
use Rattle.peripherals.specs.declared.Event.{Event}
use Rattle.peripherals.specs.declared.Event.TheVariants.{Step}
use Rattle.peripherals.specs.Devices.{WorldState}
use Rattle.peripherals.specs.Events.{Happens}

-- A word of this meaning is an instruction, whichever; only `Undefined`, that of a word without a meaning, is not
-- supported.
abbrev pub is_supported : Meaning → Bool
is_supported Undefined = false
is_supported _ = true

-- The state before an event that is a step and is carried out.
abbrev pub stepped_from : Profile → WorldState → Event → List State
stepped_from profile w Step =
    if is_none w.halted_at && is_supported (instruction profile w.state) then w.state ∷ [] else []
stepped_from profile w _ = []

-- From w these events lead to x, and these are the states before each step that is carried out.
abbrev pub EventRun : Profile → List Event → WorldState → List State → WorldState → Type 0
EventRun profile [] w before x = (w ≡ x) × (before ≡ [])
EventRun profile (e ∷ es) w before x =
    (m : WorldState) × (later : List State) × Happens profile w e m × EventRun profile es m later x ×
    (before ≡ stepped_from profile w e ++ later)

-- The states before the steps of a run of the table.
abbrev pub states_before : List Taken → List State
states_before [] = []
states_before (k ∷ ks) = k.before ∷ states_before ks

-- Every list of events is a run of the table, by some answers: the states before each step that is carried out, and the
-- state at the end, are those of the run.
abbrev pub EventsAreRuns : Type 0
EventsAreRuns =
    (profile : Profile) (events : List Event) (w x : WorldState) (before : List State) →
    EventRun profile events w before x →
    (taken : List Taken) × (states_before taken ≡ before) × Run profile w.state taken x.state
