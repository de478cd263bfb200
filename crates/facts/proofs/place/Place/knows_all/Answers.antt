use Rattle.facts.proofs.ShowingLemmas.{known_step, known_fails}
use Rattle.transfer.proofs.EntailLemmas.{not_both}
use Rattle.facts.specs.PlaceInCode.{place_in_code}
use Rattle.domain.specs.RelationsInCode.{relation_of}
use Rattle.facts.proofs.place.Place.knows_all.Goals as goal

pub returns-then-not-knows : goal.returns-then-not-knows
returns-then-not-knows g c = known_fails relation_of (place_in_code c.args.self.now) (g.K.KnownFact.known c.args.fact.now) _ _ _ c.loop-relation-test.true c.relation-item.is (not_both _ c.if-not-knows.true c.knows.ensures.1) c.loop-relation.invariant

pub loop-relation-preserved : goal.loop-relation-preserved
loop-relation-preserved g c = known_step relation_of (place_in_code c.args.self.now) (g.K.KnownFact.known c.args.fact.now) _ _ _ c.loop-relation-test.true c.relation-item.is (c.knows.ensures.0 c.if-not-knows.false) c.loop-relation.invariant
