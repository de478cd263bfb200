use Rattle.std.proofs.Common.{◌*◌, arith}
use Rattle.wordset.proofs.WordSet.first_in_lanes.Goals as goal
use Rattle.wordset.proofs.Firsts.{first_in_lane, none_more}

pub loop-i-init : goal.loop-i-init
loop-i-init c = λ v f h. absurd (omega arith)

pub returns-then-lane-ne0 : goal.returns-then-lane-ne0
returns-then-lane-ne0 c =
    rw (← c.self.view_is, c.from_index.ensures) (first_in_lane c.self.inside.lanes (64 * c.args.start) c.loop-i.i c.self.invariant c.loop-i-test.true (omega arith) c.loop-i.invariant c.if-lane-ne0.true)

pub loop-i-preserved : goal.loop-i-preserved
loop-i-preserved c = none_more c.self.inside.lanes (64 * c.args.start) c.loop-i.i c.loop-i.invariant c.if-lane-ne0.false

pub returns : goal.returns
returns c = λ v f h. rw (← c.self.view_is) (c.loop-i.invariant v f (omega arith))
