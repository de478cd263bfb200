use Rattle.std.proofs.Common.{◌<◌, ◌≢◌, length, arith, lit<, get_or-set_other, get_or-set_same, below_more}
use Rattle.wordset.proofs.WordSet.having.Goals as goal
use Rattle.wordset.proofs.LaneBits.{filled, AreLanes-set}
use Rattle.wordset.proofs.Parts.{words-having}

pub loop-i-init : goal.loop-i-init
loop-i-init c = record { are = filled 0 (lit< tt); done = λ k h. absurd (omega arith) }

pub loop-i-preserved : goal.loop-i-preserved
loop-i-preserved c = record {
  are = AreLanes-set c.loop-i.lanes c.loop-i.i c.lane_of_bit.result c.loop-i-test.true c.lane_of_bit.type_inv c.loop-i.invariant.are;
  done = below_more _ _
      (λ k h j g. let ne : k ≢ c.loop-i.i = omega arith in rw get_or-set_other (c.loop-i.invariant.done k h j g))
      (λ j g. let lt : c.loop-i.i < length c.loop-i.lanes = omega (arith, c.loop-i.invariant.are.long) in rw get_or-set_same (c.lane_of_bit.ensures j g));
}

pub invariant_of-result : goal.invariant_of-result
invariant_of-result c = c.loop-i.invariant.are

pub returns : goal.returns
returns c = λ v h. words-having c.loop-i.lanes c.args.at v (λ k j lt g. c.loop-i.invariant.done k (omega arith) j g) h
