use Rattle.std.proofs.Common.{◌∙◌, ap, subst}
use Rattle.std.specs.Prelude.{IsTrue, ◌↔◌}
use Rattle.facts.specs.PlaceInCode.{place_in_code}
use Rattle.domain.specs.Facts.{Fact}
use Rattle.domain.specs.FactInCode.{fact_in_code, rules_of}
use Rattle.facts.specs.Landing.{IsIdleUnder}
use Rattle.facts.proofs.SplitLemmas.{both_idle, first_not_idle, never_idle}
use Rattle.transfer.proofs.EntailLemmas.{not_both}
use Rattle.facts.proofs.place.Place.is_idle.Goals as goal

pub returns-in-OfEquations-clause-idle : goal.returns-in-OfEquations-clause-idle
returns-in-OfEquations-clause-idle g c = never_idle (place_in_code c.args.self.now) (fact_in_code c.args.fact.now) (ap rules_of c.in-OfEquations.is)

pub returns-then-not-is_idle_under-clause-idle : goal.returns-then-not-is_idle_under-clause-idle
returns-then-not-is_idle_under-clause-idle g c = first_not_idle (place_in_code c.args.self.now) (fact_in_code c.args.fact.now) (ap rules_of c.in-OfSums.is)
    (not_both _ c.if-not-is_idle_under.true c.is_idle_under.ensures.idle.1)

pub returns-else-not-is_idle_under-clause-idle : goal.returns-else-not-is_idle_under-clause-idle
returns-else-not-is_idle_under-clause-idle g c = both_idle (place_in_code c.args.self.now) (fact_in_code c.args.fact.now) c.is_idle_under-in-OfSums.result (ap rules_of c.in-OfSums.is)
    (c.is_idle_under.ensures.idle.0 c.if-not-is_idle_under.false)
    (subst (λ (f : Fact). IsTrue c.is_idle_under-in-OfSums.result ↔ IsIdleUnder (place_in_code c.args.self.now) 1 f) c.is_idle_under.ensures.kept c.is_idle_under-in-OfSums.ensures.idle)

pub returns-else-not-is_idle_under-clause-kept : goal.returns-else-not-is_idle_under-clause-kept
returns-else-not-is_idle_under-clause-kept g c = c.is_idle_under-in-OfSums.ensures.kept ∙ c.is_idle_under.ensures.kept
