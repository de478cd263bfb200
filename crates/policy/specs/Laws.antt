-- What the definitions of declared runs and of what is told of them leave open: nothing.
use Rattle.std.specs.Prelude.{◌≡◌, ℕ, None, List}
use Rattle.processor.specs.Machine.{State, Answer, Step, instruction}
use Rattle.processor.specs.Runs.{Image}
use Rattle.peripherals.specs.declared.Event.{Event}
use Rattle.peripherals.specs.Devices.{WorldState}
use Rattle.declaration.specs.Declaration.{Declaration, IsDeclared}
use Rattle.policy.specs.Calls.{Calls}
use Rattle.policy.specs.Rules.{StaysInBody, WritesDeclared, CallsEntries, KeepsCode}
use Rattle.policy.specs.Runs.{DeclaredEvents, DeclaredRun, IsSafe, IsSafeInRuns}
use Rattle.policy.specs.Watching.{BreaksAt, LeadsTo, Tells}
use Rattle.policy.specs.declared.rules.Rule.TheVariants as rule
use Rattle.policy.specs.declared.watcher.Watched.{Watched}

-- Events lead a declared run to one world.
abbrev pub RunIsOne : Type 0
RunIsOne = (d : Declaration) (events : List Event) (w x x' : WorldState) → LeadsTo d events w x → LeadsTo d events w x' → x ≡ x'

-- One thing is told of a declared run.
abbrev pub VerdictIsOne : Type 0
VerdictIsOne =
    (image : Image) (d : Declaration) (events : List Event) (w : WorldState) (told told' : Watched) →
    Tells image d events w told → Tells image d events w told' → told ≡ told'

-- A step that keeps the first three rules keeps the code.
abbrev pub StepsKeepCode : Type 0
StepsKeepCode =
    (image : Image) (d : Declaration) (s t : State) (q : Answer) (ks : Calls) →
    IsDeclared d → StaysInBody d s ks → WritesDeclared d (instruction d.profile s) s ks → CallsEntries d (instruction d.profile s) s →
    Step d.profile s q t → KeepsCode image d s.memory → KeepsCode image d t.memory

-- If a run begins with the tape's words in its code, no step violates the rule on code first: whatever changes code
-- violates another rule before.
abbrev pub CodeIsKept : Type 0
CodeIsKept =
    (image : Image) (d : Declaration) (events : List Event) (w : WorldState) (n : ℕ) →
    IsDeclared d → KeepsCode image d w.state.memory → BreaksAt image d events w n rule.KeepsCode → ⊥

-- The events of a declared run that leave the machine running are a declared run of the instruction table, with the same
-- call stack.
abbrev pub DeclaredEventsAreRuns : Type 0
DeclaredEventsAreRuns =
    (d : Declaration) (events : List Event) (w x : WorldState) (ks ls : Calls) →
    DeclaredEvents d events w ks x ls → x.halted_at ≡ None → (answers : List Answer) × DeclaredRun d answers w.state ks x.state ls

-- So a program that is safe in runs of the instruction table is safe in lists of events.
abbrev pub SafeInRunsIsSafe : Type 0
SafeInRunsIsSafe = (image : Image) (d : Declaration) → IsSafeInRuns image d → IsSafe image d
