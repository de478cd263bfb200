use Rattle.declaration.specs.DeclarationInCode.{place_assertion_of}
use Rattle.domain.specs.FactInCode.{fact_in_code}
use Rattle.facts.specs.PlaceInCode.{place_in_code}
use Rattle.facts.proofs.HeldLemmas.{held_all, held_more, held_not, not_so}
use Rattle.facts.proofs.place.Place.each_is_held.Goals as goal

pub loop-holding-preserved : goal.loop-holding-preserved
loop-holding-preserved g c =
    held_more place_assertion_of (place_in_code c.args.self.now) (fact_in_code c.args.fact.now) c.args.at c.args.holds.now c.loop-holding.holding-index c.holding-item.result c.loop-holding-test.true c.holding-item.is
    (c.is_held.ensures.0 c.if-not-is_held.false) c.loop-holding.invariant

pub returns-then-not-is_held : goal.returns-then-not-is_held
returns-then-not-is_held g c =
    held_not place_assertion_of (place_in_code c.args.self.now) (fact_in_code c.args.fact.now) c.args.at c.args.holds.now c.loop-holding.holding-index c.holding-item.result c.loop-holding-test.true c.holding-item.is
    (not_so c.is_held.ensures c.if-not-is_held.true) c.loop-holding.invariant

pub returns : goal.returns
returns g c = held_all place_assertion_of (place_in_code c.args.self.now) (fact_in_code c.args.fact.now) c.args.at c.args.holds.now c.loop-holding.holding-index c.loop-holding-test.false c.loop-holding.invariant
