use Rattle.std.proofs.Common.{arith}
use Rattle.facts.proofs.ShowingLemmas.{among_none}
use Rattle.domain.specs.RelationsInCode.{relation_of}
use Rattle.facts.proofs.entailment.place_among.Goals as goal

pub loop-at-init : goal.loop-at-init
loop-at-init c = λ h. h

pub loop-at-preserved : goal.loop-at-preserved
loop-at-preserved c = λ h. c.is_at-in-loop-at.ensures.other c.if-is_at-2.false (c.loop-at.invariant h)

pub returns : goal.returns
returns c = λ h. among_none relation_of (relation_of c.args.relation.now) c.args.relations.now c.loop-at.at (omega (arith, c.loop-at-test.false)) (c.loop-at.invariant h)
