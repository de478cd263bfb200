use Rattle.std.proofs.Common.{◌∙◌, ap, arith}
use Rattle.wordset.specs.Words.{smeared, shifted, union}
use Rattle.wordset.specs.Lanes.{words}
use Rattle.wordset.proofs.SmearLemmas.{smeared_once, smeared_more}
use Rattle.wordset.proofs.WordSet.smeared.Goals as goal

pub loop-reach-init : goal.loop-reach-init
loop-reach-init c = (omega arith, c.requires.some, smeared_once c.args.self.now)

pub loop-reach-preserved : goal.loop-reach-preserved
loop-reach-preserved c = (
  omega (arith, c.loop-reach.invariant.0),
  omega (arith, c.loop-reach.invariant.1, c.min-more.ensures),
  smeared_more c.union-found.result (words c.args.self.now) (words c.loop-reach.found) c.loop-reach.reach c.min-more.result c.loop-reach.invariant.2 (omega (arith, c.min-more.ensures)) (omega (arith, c.min-more.ensures)) (omega (arith, c.loop-reach.invariant.1, c.requires.few))
      (c.union-found.ensures ∙ ap (union (words c.loop-reach.found)) (c.shift.ensures ∙ ap (shifted (words c.loop-reach.found)) c.from_index.ensures)),
)

pub returns : goal.returns
returns c = c.loop-reach.invariant.2 ∙ ap (smeared (words c.args.self.now)) (omega (arith, c.loop-reach.invariant.1, c.loop-reach-test.false))
