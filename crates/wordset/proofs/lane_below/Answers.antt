use Rattle.std.proofs.Common.{arith}
use Rattle.wordset.proofs.lane_below.Goals as goal
use Rattle.wordset.proofs.RangeLemmas.{lane_whole, lane_part}

pub returns-then-first-end : goal.returns-then-first-end
returns-then-first-end c = λ j h. lane_whole c.args.end c.args.i j (omega (arith, c.if-first-end.true)) h

pub returns-else-first-end : goal.returns-else-first-end
returns-else-first-end c = λ j h. lane_part c.args.end c.args.i j (omega (arith, c.if-end-first.false)) (omega (arith, c.if-first-end.false)) h
