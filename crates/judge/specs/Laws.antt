-- What a valid certificate says of every run, that one condition fails first, and that bytes are judged in one way.
use Rattle.std.specs.Prelude.{◌≡◌, ℕ, None, List, []}
use Rattle.processor.specs.Machine.{State, Answer}
use Rattle.processor.specs.Runs.{IsStart}
use Rattle.peripherals.specs.declared.Event.{Event}
use Rattle.peripherals.specs.Devices.{WorldState}
use Rattle.peripherals.specs.Events.{IsLoaded}
use Rattle.declaration.specs.Declaration.{IsDeclared}
use Rattle.policy.specs.Calls.{Calls, current}
use Rattle.policy.specs.Runs.{DeclaredRun, DeclaredEvents}
use Rattle.processor.specs.Cells.{Cells}
use Rattle.domain.specs.Facts.{SomeMeans}
use Rattle.facts.specs.declared.Condition.{Condition}
use Rattle.judge.specs.Certifying.{Parts, AreRead, case_of}
use Rattle.judge.specs.Landing.{Case, place_in, facts_in}
use Rattle.judge.specs.Conditions.{IsFirst, IsValid}

-- One of the facts at the program counter holds of the memory at the start, this state and this call stack, in the
-- running routine. So there is one.
abbrev pub IsTrueAt : Case → Cells → State → Calls → Type 0
IsTrueAt j start t ls = SomeMeans (place_in j (current ls)) start (facts_in j (current ls) t.pc) t ls

-- If every condition holds, one of the facts is true wherever a declared run of the instruction table leads from a start.
abbrev pub FactsHoldInRuns : Type 0
FactsHoldInRuns =
    (j : Case) → IsDeclared j.declaration → IsValid j →
    (s t : State) (ls : Calls) (answers : List Answer) →
    IsStart j.image j.declaration.start s → DeclaredRun j.declaration answers s [] t ls → IsTrueAt j s.memory t ls

-- If every condition holds, one of the facts is true wherever declared events lead from a machine that is just loaded, while it
-- runs.
abbrev pub FactsHoldInEvents : Type 0
FactsHoldInEvents =
    (j : Case) → IsDeclared j.declaration → IsValid j →
    (w x : WorldState) (ls : Calls) (events : List Event) →
    IsLoaded j.image j.declaration.start w → DeclaredEvents j.declaration events w [] x ls → x.halted_at ≡ None →
    IsTrueAt j w.state.memory x.state ls

-- No two conditions fail first.
abbrev pub FirstIsOne : Type 0
FirstIsOne = (j : Case) (v u : Condition) (a b : ℕ) → IsFirst j v a → IsFirst j u b → (v ≡ u) × (a ≡ b)

-- A tape and two texts make one case: of whatever parts they are read as, the same is judged. So where every condition
-- holds of one reading, every one holds of the other, and where one fails first, it fails first of the other.
abbrev pub TextsMakeOneCase : Type 0
TextsMakeOneCase =
    (tape declaration certificate : List ℕ) (p q : Parts) →
    AreRead tape declaration certificate p → AreRead tape declaration certificate q → case_of p ≡ case_of q
