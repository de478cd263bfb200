-- The events of a declared run are a declared run of the instruction table.
use Rattle.std.proofs.Common.{ℕ, ◌≡◌, Bool, true, false, inl, inr, Option, Some, None, List, [], ◌∷◌, refl, sym, ap, ◌∙◌, subst}
use Rattle.std.specs.Prelude.{if◌then◌else◌}
use Rattle.instruct.specs.Instructions.{Meaning, Group2}
use Rattle.processor.specs.Machine.{State, Answer, instruction}
use Rattle.processor.specs.Steps.{halts_after}
use Rattle.peripherals.specs.declared.Event.{Event}
use Rattle.peripherals.specs.declared.Event.TheVariants.{Step as Instruct, Key, PrinterDone, ReaderDone, PunchDone, Switches, Continue}
use Rattle.peripherals.specs.Devices.{WorldState, answer_of}
use Rattle.declaration.specs.Declaration.{Declaration}
use Rattle.policy.specs.Calls.{Calls, calls_of}
use Rattle.policy.specs.Laws.{DeclaredEventsAreRuns, SafeInRunsIsSafe}
use Rattle.policy.specs.Runs.{GoesOn, DeclaredRun, DeclaredEvents, HappensDeclared, calls_by, calls_running, resumed}

-- The machine runs, or stands at a pause.
abbrev MayGoOn : Declaration → Option ℕ → Type 0
MayGoOn d None = Unit {0}
MayGoOn d (Some at) = d.pause at ≡ true

same_halt : (d : Declaration) (w x : WorldState) → x.halted_at ≡ w.halted_at → MayGoOn d x.halted_at → MayGoOn d w.halted_at
same_halt d w x same on = subst (λ (o : Option ℕ). MayGoOn d o) same on

-- where it may go on after an event, it may before
went_on : (d : Declaration) (w x : WorldState) (e : Event) → HappensDeclared d w e x → MayGoOn d x.halted_at → MayGoOn d w.halted_at
went_on d w x Instruct happens on = go w.halted_at refl
  where
    go : (o : Option ℕ) → w.halted_at ≡ o → MayGoOn d o
    go None is = tt
    go (Some at) is =
        let same : x.halted_at ≡ Some at = ap (λ (v : WorldState). v.halted_at) (happens.halted at is) ∙ is in
        subst (λ (o : Option ℕ). MayGoOn d o) same on
went_on d w x (Key byte) happens on = same_halt d w x (ap (λ (v : WorldState). v.halted_at) happens.1) on
went_on d w x PrinterDone happens on = same_halt d w x (ap (λ (v : WorldState). v.halted_at) happens) on
went_on d w x (ReaderDone byte) happens on = same_halt d w x (ap (λ (v : WorldState). v.halted_at) happens.1) on
went_on d w x PunchDone happens on = same_halt d w x (ap (λ (v : WorldState). v.halted_at) happens) on
went_on d w x (Switches word) happens on = same_halt d w x (ap (λ (v : WorldState). v.halted_at) happens.1) on
went_on d w x Continue happens on = go w.halted_at (subst (λ (o : Option ℕ). MayGoOn d o) (ap (λ (v : WorldState). v.halted_at) happens) on)
  where
    at_pause : (at : ℕ) (b : Bool) → d.pause at ≡ b → MayGoOn d (if b then None else Some at) → d.pause at ≡ true
    at_pause at true is went = is
    at_pause at false is went = went

    go : (o : Option ℕ) → MayGoOn d (resumed d o) → MayGoOn d o
    go None went = tt
    go (Some at) went = at_pause at (d.pause at) refl went

all_went_on : (d : Declaration) (es : List Event) (w x : WorldState) (ks ls : Calls) → DeclaredEvents d es w ks x ls → MayGoOn d x.halted_at → MayGoOn d w.halted_at
all_went_on d [] w x ks ls run on = same_halt d w x (ap (λ (v : WorldState). v.halted_at) (sym run.0)) on
all_went_on d (e ∷ es) w x ks ls run on = went_on d w run.0 e run.1 (all_went_on d es run.0 x (calls_by d w e ks) ls run.2 on)

goes_on : (d : Declaration) (m : Meaning) (pc : ℕ) (at : Option ℕ) → at ≡ (if halts_after m then Some pc else None) → MayGoOn d at → GoesOn d m pc
goes_on d (Group2 w) pc at is on = λ halts.
    let halted : at ≡ Some pc = rw halts at is in
    subst (λ (o : Option ℕ). MayGoOn d o) halted on
goes_on d _ pc at is on = tt

-- A run of the table from a state to a state.
abbrev Leads : Declaration → State → Calls → State → Calls → Type 0
Leads d s ks t ls = (answers : List Answer) × DeclaredRun d answers s ks t ls

from_same : (d : Declaration) (s u t : State) (ks ms ls : Calls) → s ≡ u → ks ≡ ms → Leads d s ks t ls → Leads d u ms t ls
from_same d s u t ks ms ls state calls run =
    (run.0, subst (λ (k : Calls). DeclaredRun d run.0 u k t ls) calls (subst (λ (v : State). DeclaredRun d run.0 v ks t ls) state run.1))

stepped : (d : Declaration) (w m : WorldState) (t : State) (ks ls : Calls) → HappensDeclared d w Instruct m → MayGoOn d m.halted_at →
    (o : Option ℕ) → w.halted_at ≡ o → Leads d m.state (calls_running d w o ks) t ls → Leads d w.state ks t ls
stepped d w m t ks ls happens on (Some at) is run = from_same d m.state w.state t ks ks ls (ap (λ (v : WorldState). v.state) (happens.halted at is)) refl run
stepped d w m t ks ls happens on None is run = elim (happens.runs is) [
  | inl out ↦ (answer_of d.profile w ∷ run.0, (m.state, out.step, goes_on d (instruction d.profile w.state) w.state.pc m.halted_at out.halted_at on, run.1))
  | inr none ↦ from_same d m.state w.state t (calls_of d (instruction d.profile w.state) w.state ks) ks ls (ap (λ (v : WorldState). v.state) none.1) (ap (λ (i : Meaning). calls_of d i w.state ks) none.0) run
]

-- an event before a run
further : (d : Declaration) (w m : WorldState) (e : Event) (t : State) (ks ls : Calls) → HappensDeclared d w e m → MayGoOn d m.halted_at →
    Leads d m.state (calls_by d w e ks) t ls → Leads d w.state ks t ls
further d w m Instruct t ks ls happens on run = stepped d w m t ks ls happens on w.halted_at refl run
further d w m (Key byte) t ks ls happens on run = from_same d m.state w.state t ks ks ls (ap (λ (v : WorldState). v.state) happens.1) refl run
further d w m PrinterDone t ks ls happens on run = from_same d m.state w.state t ks ks ls (ap (λ (v : WorldState). v.state) happens) refl run
further d w m (ReaderDone byte) t ks ls happens on run = from_same d m.state w.state t ks ks ls (ap (λ (v : WorldState). v.state) happens.1) refl run
further d w m PunchDone t ks ls happens on run = from_same d m.state w.state t ks ks ls (ap (λ (v : WorldState). v.state) happens) refl run
further d w m (Switches word) t ks ls happens on run = from_same d m.state w.state t ks ks ls (ap (λ (v : WorldState). v.state) happens.1) refl run
further d w m Continue t ks ls happens on run = from_same d m.state w.state t ks ks ls (ap (λ (v : WorldState). v.state) happens) refl run

led : (d : Declaration) (es : List Event) (w x : WorldState) (ks ls : Calls) → DeclaredEvents d es w ks x ls → MayGoOn d x.halted_at → Leads d w.state ks x.state ls
led d [] w x ks ls run on = ([], (ap (λ (v : WorldState). v.state) run.0, run.1))
led d (e ∷ es) w x ks ls run on =
    further d w run.0 e x.state ks ls run.1 (all_went_on d es run.0 x (calls_by d w e ks) ls run.2 on) (led d es run.0 x (calls_by d w e ks) ls run.2 on)

pub events_are_runs : DeclaredEventsAreRuns
events_are_runs d events w x ks ls run running = led d events w x ks ls run (subst (λ (o : Option ℕ). MayGoOn d o) (sym running) tt)

pub safe_in_events : SafeInRunsIsSafe
safe_in_events image d safe = record {
  runs = safe;
  events = λ w x ls events load run running. (let way = events_are_runs d events w x [] ls run running in safe w.state x.state ls way.0 load.state way.1);
}
