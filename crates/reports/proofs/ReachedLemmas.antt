-- No fact is true at an address without one.
use Rattle.std.proofs.Common.{◌≡◌, ◌∙◌, ap, subst, refl, List, []}
use Rattle.wordset.specs.Words.{Words}
use Rattle.processor.specs.Machine.{State}
use Rattle.processor.specs.Cells.{Cells}
use Rattle.domain.specs.Facts.{Fact, Rules, OfEquations, OfSums, SomeMeans}
use Rattle.policy.specs.Calls.{Calls, current}
use Rattle.judge.specs.Landing.{Case, place_in, sited, sites_of}
use Rattle.judge.specs.Laws.{FactsHoldInEvents, FactsHoldInRuns, IsTrueAt}
use Rattle.reports.specs.Laws.{IsNeverReachedInEvents, IsNeverReachedInRuns}

none_sited : (rules : Rules) (sites : Words) → sited rules sites [] ≡ []
none_sited OfSums sites = refl
none_sited OfEquations sites = refl

true_nowhere : (j : Case) (start : Cells) (t : State) (ls : Calls) → j.certificate.facts t.pc ≡ [] → IsTrueAt j start t ls → ⊥
true_nowhere j start t ls none true_there =
    let P : List Fact → Type 0 = λ fs. SomeMeans (place_in j (current ls)) start fs t ls in
    subst P (ap (sited j.certificate.rules (sites_of j.certificate (current ls))) none ∙ none_sited j.certificate.rules (sites_of j.certificate (current ls))) true_there

pub never_in_runs : FactsHoldInRuns → IsNeverReachedInRuns
never_in_runs hold j declared valid s t ls answers at_start run none =
    true_nowhere j s.memory t ls none (hold j declared valid s t ls answers at_start run)

pub never_in_events : FactsHoldInEvents → IsNeverReachedInEvents
never_in_events hold j declared valid w x ls events loaded run running none =
    true_nowhere j w.state.memory x.state ls none (hold j declared valid w x ls events loaded run running)
