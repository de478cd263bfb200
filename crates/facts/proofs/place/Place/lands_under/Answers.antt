use Rattle.std.proofs.Common.{◌∙◌, sym, ap}
use Rattle.wordset.specs.Words.{Words}
use Rattle.facts.specs.PlaceInCode.{place_in_code}
use Rattle.facts.specs.PartInCode.{part_in_code}
use Rattle.domain.specs.FactInCode.{fact_in_code}
use Rattle.facts.proofs.SplitLemmas.{no_link, under_link}
use Rattle.facts.proofs.place.Place.lands_under.Goals as goal

pub returns-then-not-contains-clause-lands : goal.returns-then-not-contains-clause-lands
returns-then-not-contains-clause-lands g c = no_link (place_in_code c.args.self.now) c.args.link (fact_in_code c.args.fact.now) (g.F.FactSource.facts c.args.among.now)
    (sym (c.contains.ensures ∙ ap (λ (s : Words). s c.args.link) c.link.ensures) ∙ c.if-not-contains.true)

pub returns-clause-lands : goal.returns-clause-lands
returns-clause-lands g c = under_link (place_in_code c.args.self.now) c.args.link (fact_in_code c.args.fact.now) (part_in_code c.take.new.self) (g.F.FactSource.facts c.args.among.now) c.part_lands.result
    (sym (c.contains.ensures ∙ ap (λ (s : Words). s c.args.link) c.link.ensures) ∙ c.if-not-contains.false) c.take.ensures.part c.part_lands.ensures.lands
