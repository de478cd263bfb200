use Rattle.std.proofs.Common.{map}
use Rattle.streams.specs.Taking.{TakesAll}
use Rattle.streams.proofs.taking.take_lines.Given as goal

-- the lines so far are taken
abbrev pub invariant-loop-index : goal.invariant-loop-index
invariant-loop-index g l = TakesAll g.T.LineTaker.takes l.fn.taker (map (λ item. item.1.now) l.yielded) l.taker
