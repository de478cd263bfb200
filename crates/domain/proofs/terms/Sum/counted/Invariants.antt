use Rattle.std.proofs.Common.{◌≡◌, ◌++◌, drop, length}
use Rattle.domain.specs.Moves.{counted_sum}
use Rattle.domain.specs.InCode.{sum_of}
use Rattle.domain.proofs.terms.Sum.counted.Given as goal

abbrev pub invariant-loop-at : goal.invariant-loop-at
invariant-loop-at l = ((sum_of l.sum ++ counted_sum l.cell l.by (drop l.at (sum_of l.self))) ≡ counted_sum l.cell l.by (sum_of l.self)) × (length (sum_of l.sum) ≡ l.at)
