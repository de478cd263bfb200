-- Declared runs, according to the instruction table and according to lists of events, and the programs all of whose
-- declared runs are legal.
use Rattle.std.specs.Prelude.{◌≡◌, ℕ, true, if◌then◌else◌, Option, Some, None, List, [], ◌∷◌}
use Rattle.instruct.specs.Operates.{is_halt}
use Rattle.instruct.specs.Instructions.{Meaning, Group2}
use Rattle.processor.specs.Machine.{State, Answer, instruction, Step}
use Rattle.processor.specs.Runs.{Image, IsStart}
use Rattle.peripherals.specs.declared.Event.{Event}
use Rattle.peripherals.specs.declared.Event.TheVariants.{Step as Instruct, Key, PrinterDone, ReaderDone, PunchDone, Switches, Continue}
use Rattle.peripherals.specs.Devices.{WorldState}
use Rattle.peripherals.specs.Events.{Happens, IsLoaded}
use Rattle.declaration.specs.Declaration.{Declaration}
use Rattle.policy.specs.Calls.{Calls, calls_after}
use Rattle.policy.specs.Rules.{IsLegal}

-- After a HLT a declared run continues only at a pause, where the operator presses CONTINUE.
abbrev pub GoesOn : Declaration → Meaning → ℕ → Type 0
GoesOn d (Group2 w) pc = is_halt w ≡ true → d.pause pc ≡ true
GoesOn d _ pc = Unit {0}

-- The declared runs that lead from the state s with the call stack ks to the state t with the call stack ls, with these
-- answers, and may continue.
abbrev pub DeclaredRun : Declaration → List Answer → State → Calls → State → Calls → Type 0
DeclaredRun d [] s ks t ls = (s ≡ t) × (ks ≡ ls)
DeclaredRun d (q ∷ qs) s ks t ls =
    (m : State) × Step d.profile s q m × GoesOn d (instruction d.profile s) s.pc ×
    DeclaredRun d qs m (calls_after d s ks) t ls

-- Wherever a declared run may continue, from any start and with any answers, the next step is
-- legal.
abbrev pub IsSafeInRuns : Image → Declaration → Type 0
IsSafeInRuns image d =
    (s t : State) (ls : Calls) (answers : List Answer) →
    IsStart image d.start s → DeclaredRun d answers s [] t ls → IsLegal image d t ls

-- CONTINUE is enabled only at a pause.
abbrev pub resumed : Declaration → Option ℕ → Option ℕ
resumed d None = None
resumed d (Some at) = if d.pause at then None else Some at

-- From the world w an event of a declared run leads to the world x.
abbrev pub HappensDeclared : Declaration → WorldState → Event → WorldState → Type 0
HappensDeclared d w Instruct x = Happens d.profile w Instruct x
HappensDeclared d w (Key byte) x = Happens d.profile w (Key byte) x
HappensDeclared d w PrinterDone x = Happens d.profile w PrinterDone x
HappensDeclared d w (ReaderDone byte) x = Happens d.profile w (ReaderDone byte) x
HappensDeclared d w PunchDone x = Happens d.profile w PunchDone x
HappensDeclared d w (Switches word) x = Happens d.profile w (Switches word) x
HappensDeclared d w Continue x = x ≡ record w { halted_at = resumed d w.halted_at }

-- The call stack changes with the instructions that are attempted while the machine runs.
abbrev pub calls_running : Declaration → WorldState → Option ℕ → Calls → Calls
calls_running d w None ks = calls_after d w.state ks
calls_running d w (Some at) ks = ks

-- Only a step changes the call stack.
abbrev pub calls_by : Declaration → WorldState → Event → Calls → Calls
calls_by d w Instruct ks = calls_running d w w.halted_at ks
calls_by d w _ ks = ks

-- From the world w with the call stack ks, these events lead to the world x with the call stack ls.
abbrev pub DeclaredEvents : Declaration → List Event → WorldState → Calls → WorldState → Calls → Type 0
DeclaredEvents d [] w ks x ls = (w ≡ x) × (ks ≡ ls)
DeclaredEvents d (e ∷ es) w ks x ls =
    (m : WorldState) × HappensDeclared d w e m × DeclaredEvents d es m (calls_by d w e ks) x ls

-- Whatever events happened since the program was loaded, while the machine runs the next instruction is legal.
abbrev pub IsSafeInEvents : Image → Declaration → Type 0
IsSafeInEvents image d =
    (w x : WorldState) (ls : Calls) (events : List Event) →
    IsLoaded image d.start w → DeclaredEvents d events w [] x ls → x.halted_at ≡ None → IsLegal image d x.state ls

-- A program complies with its declaration in every declared run.
pub record IsSafe (image : Image) (d : Declaration) : Type 0 where
  pub runs : IsSafeInRuns image d
  pub events : IsSafeInEvents image d
