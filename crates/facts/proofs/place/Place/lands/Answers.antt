use Rattle.std.proofs.Common.{◌∙◌, ap, subst}
use Rattle.std.specs.Prelude.{IsTrue, ◌↔◌}
use Rattle.facts.specs.PlaceInCode.{place_in_code}
use Rattle.domain.specs.Facts.{Fact}
use Rattle.domain.specs.FactInCode.{fact_in_code, rules_of}
use Rattle.facts.specs.Landing.{LandsUnder}
use Rattle.facts.proofs.SplitLemmas.{both_land, first_fails, one_lands}
use Rattle.transfer.proofs.EntailLemmas.{not_both}
use Rattle.facts.proofs.place.Place.lands.Goals as goal

pub returns-in-OfEquations-clause-lands : goal.returns-in-OfEquations-clause-lands
returns-in-OfEquations-clause-lands g c = one_lands (place_in_code c.args.self.now) (fact_in_code c.args.fact.now) (g.F.FactSource.facts c.args.among.now) c.entails_one.result (ap rules_of c.in-OfEquations.is) c.entails_one.ensures

pub returns-then-not-lands_under-clause-lands : goal.returns-then-not-lands_under-clause-lands
returns-then-not-lands_under-clause-lands g c = first_fails (place_in_code c.args.self.now) (fact_in_code c.args.fact.now) (g.F.FactSource.facts c.args.among.now) (ap rules_of c.in-OfSums.is)
    (not_both _ c.if-not-lands_under.true c.lands_under.ensures.lands.1)

pub returns-else-not-lands_under-clause-lands : goal.returns-else-not-lands_under-clause-lands
returns-else-not-lands_under-clause-lands g c = both_land (place_in_code c.args.self.now) (fact_in_code c.args.fact.now) (g.F.FactSource.facts c.args.among.now) c.lands_under-in-OfSums.result (ap rules_of c.in-OfSums.is)
    (c.lands_under.ensures.lands.0 c.if-not-lands_under.false)
    (subst (λ (f : Fact). IsTrue c.lands_under-in-OfSums.result ↔ LandsUnder (place_in_code c.args.self.now) 1 f (g.F.FactSource.facts c.args.among.now)) c.lands_under.ensures.kept c.lands_under-in-OfSums.ensures.lands)

pub returns-else-not-lands_under-clause-kept : goal.returns-else-not-lands_under-clause-kept
returns-else-not-lands_under-clause-kept g c = c.lands_under-in-OfSums.ensures.kept ∙ c.lands_under.ensures.kept
