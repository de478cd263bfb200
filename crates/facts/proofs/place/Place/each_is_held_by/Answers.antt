use Rattle.declaration.specs.DeclarationInCode.{return_assertion_of}
use Rattle.domain.specs.FactInCode.{fact_in_code}
use Rattle.facts.specs.PlaceInCode.{place_in_code}
use Rattle.facts.proofs.HeldLemmas.{returned_all, returned_more, returned_not, not_so}
use Rattle.facts.proofs.place.Place.each_is_held_by.Goals as goal

pub loop-returning-preserved : goal.loop-returning-preserved
loop-returning-preserved g c =
    returned_more return_assertion_of (place_in_code c.args.self.now) (fact_in_code c.args.exit.now) c.args.entry c.args.offset c.args.returns.now c.loop-returning.returning-index c.returning-item.result c.loop-returning-test.true c.returning-item.is
    (c.is_held_by.ensures.0 c.if-not-is_held_by.false) c.loop-returning.invariant

pub returns-then-not-is_held_by : goal.returns-then-not-is_held_by
returns-then-not-is_held_by g c =
    returned_not return_assertion_of (place_in_code c.args.self.now) (fact_in_code c.args.exit.now) c.args.entry c.args.offset c.args.returns.now c.loop-returning.returning-index c.returning-item.result c.loop-returning-test.true c.returning-item.is
    (not_so c.is_held_by.ensures c.if-not-is_held_by.true) c.loop-returning.invariant

pub returns : goal.returns
returns g c = returned_all return_assertion_of (place_in_code c.args.self.now) (fact_in_code c.args.exit.now) c.args.entry c.args.offset c.args.returns.now c.loop-returning.returning-index c.loop-returning-test.false c.loop-returning.invariant
