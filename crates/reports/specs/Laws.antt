-- What it means that a report says of an address that it is never reached.
use Rattle.std.specs.Prelude.{◌≡◌, None, List, []}
use Rattle.processor.specs.Machine.{State, Answer}
use Rattle.processor.specs.Runs.{IsStart}
use Rattle.peripherals.specs.declared.Event.{Event}
use Rattle.peripherals.specs.Devices.{WorldState}
use Rattle.peripherals.specs.Events.{IsLoaded}
use Rattle.declaration.specs.Declaration.{IsDeclared}
use Rattle.policy.specs.Calls.{Calls}
use Rattle.policy.specs.Runs.{DeclaredRun, DeclaredEvents}
use Rattle.judge.specs.Conditions.{IsValid}
use Rattle.judge.specs.Landing.{Case}

-- If every condition holds and an address has no fact, no declared run of the instruction table comes there from a start.
abbrev pub IsNeverReachedInRuns : Type 0
IsNeverReachedInRuns =
    (j : Case) → IsDeclared j.declaration → IsValid j →
    (s t : State) (ls : Calls) (answers : List Answer) →
    IsStart j.image j.declaration.start s → DeclaredRun j.declaration answers s [] t ls →
    j.certificate.facts t.pc ≡ [] → ⊥

-- If every condition holds and an address has no fact, no declared events lead there from a machine that is just loaded, while it
-- runs.
abbrev pub IsNeverReachedInEvents : Type 0
IsNeverReachedInEvents =
    (j : Case) → IsDeclared j.declaration → IsValid j →
    (w x : WorldState) (ls : Calls) (events : List Event) →
    IsLoaded j.image j.declaration.start w → DeclaredEvents j.declaration events w [] x ls → x.halted_at ≡ None →
    j.certificate.facts x.state.pc ≡ [] → ⊥
