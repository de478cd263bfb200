use Rattle.std.proofs.Common.{◌∙◌, sym, ap}
use Rattle.wordset.specs.Words.{Words}
use Rattle.facts.specs.PlaceInCode.{place_in_code}
use Rattle.facts.specs.PartInCode.{part_in_code}
use Rattle.domain.specs.FactInCode.{fact_in_code}
use Rattle.facts.proofs.SplitLemmas.{no_link_idle, under_link_idle}
use Rattle.facts.proofs.place.Place.is_idle_under.Goals as goal

pub returns-then-not-contains-clause-idle : goal.returns-then-not-contains-clause-idle
returns-then-not-contains-clause-idle g c = no_link_idle (place_in_code c.args.self.now) c.args.link (fact_in_code c.args.fact.now)
    (sym (c.contains.ensures ∙ ap (λ (s : Words). s c.args.link) c.link.ensures) ∙ c.if-not-contains.true)

pub returns-clause-idle : goal.returns-clause-idle
returns-clause-idle g c = under_link_idle (place_in_code c.args.self.now) c.args.link (fact_in_code c.args.fact.now) (part_in_code c.take.new.self) c.is_none.result
    (sym (c.contains.ensures ∙ ap (λ (s : Words). s c.args.link) c.link.ensures) ∙ c.if-not-contains.false) c.take.ensures.part c.is_none.ensures
