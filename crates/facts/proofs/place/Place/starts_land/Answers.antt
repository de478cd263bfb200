use Rattle.std.proofs.Common.{◌∙◌, ap, refl, subst}
use Rattle.std.specs.Prelude.{IsTrue, ◌↔◌}
use Rattle.facts.specs.PlaceInCode.{place_in_code}
use Rattle.wordset.specs.Words.{Words}
use Rattle.domain.specs.Facts.{Fact}
use Rattle.domain.specs.FactInCode.{rules_of}
use Rattle.facts.specs.Entailment.{EntailsOne}
use Rattle.facts.specs.Starts.{start_fact}
use Rattle.facts.proofs.SplitLemmas.{both_parts_land, first_part_fails, one_lands}
use Rattle.facts.proofs.BeginningLemmas.{begun}
use Rattle.transfer.proofs.EntailLemmas.{not_both}
use Rattle.facts.proofs.place.Place.starts_land.Goals as goal

pub returns-in-OfEquations : goal.returns-in-OfEquations
returns-in-OfEquations g c = one_lands (place_in_code c.args.self.now) (start_fact (place_in_code c.args.self.now).image) (g.F.FactSource.facts c.args.among.now) c.entails_one.result (ap rules_of c.in-OfEquations.is)
    (subst (λ (f : Fact). IsTrue c.entails_one.result ↔ EntailsOne (place_in_code c.args.self.now) f (g.F.FactSource.facts c.args.among.now))
    (c.new.ensures ∙ ap (λ (k : Words). begun (place_in_code c.args.self.now).image k) c.both.ensures) c.entails_one.ensures)

pub returns-then-not-starts_land_under : goal.returns-then-not-starts_land_under
returns-then-not-starts_land_under g c = first_part_fails (place_in_code c.args.self.now) (start_fact (place_in_code c.args.self.now).image) (g.F.FactSource.facts c.args.among.now) refl (ap rules_of c.in-OfSums.is)
    (not_both _ c.if-not-starts_land_under.true c.starts_land_under.ensures.1)

pub returns-else-not-starts_land_under : goal.returns-else-not-starts_land_under
returns-else-not-starts_land_under g c = both_parts_land (place_in_code c.args.self.now) (start_fact (place_in_code c.args.self.now).image) (g.F.FactSource.facts c.args.among.now) c.starts_land_under-in-OfSums.result refl refl (ap rules_of c.in-OfSums.is)
    (c.starts_land_under.ensures.0 c.if-not-starts_land_under.false) c.starts_land_under-in-OfSums.ensures
