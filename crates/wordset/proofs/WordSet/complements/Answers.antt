use Rattle.std.proofs.Common.{◌<◌, ◌≢◌, length, arith, lit<, get_or-set_other, get_or-set_same, below_more}
use Rattle.wordset.proofs.WordSet.complements.Goals as goal
use Rattle.wordset.proofs.LaneBits.{filled, AreLanes-set}
use Rattle.wordset.proofs.Complements.{words-mirrored}
use Rattle.wordset.proofs.SetLemmas.{words_that}

pub loop-i-init : goal.loop-i-init
loop-i-init c = record { are = filled 0 (lit< tt); done = λ k h. absurd (omega arith) }

pub loop-i-preserved : goal.loop-i-preserved
loop-i-preserved c = record {
  are = AreLanes-set c.loop-i.lanes c.loop-i.i c.reversed.result c.loop-i-test.true c.reversed.type_inv c.loop-i.invariant.are;
  done = below_more _ _
      (λ k h. let ne : k ≢ c.loop-i.i = omega arith in rw get_or-set_other (c.loop-i.invariant.done k h))
      (let lt : c.loop-i.i < length c.loop-i.lanes = omega (arith, c.loop-i.invariant.are.long) in rw get_or-set_same c.reversed.ensures);
}

pub invariant_of-result : goal.invariant_of-result
invariant_of-result c = c.loop-i.invariant.are

pub returns : goal.returns
returns c = words_that c.loop-i.lanes _ (λ v h. rw (← c.self.view_is) (words-mirrored c.self.inside.lanes c.loop-i.lanes (λ i g. c.loop-i.invariant.done i (omega arith)) v h))
