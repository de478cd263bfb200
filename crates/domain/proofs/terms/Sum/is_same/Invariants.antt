use Rattle.std.proofs.Common.{◌≡◌, drop, length}
use Rattle.domain.specs.Terms.{same_sum}
use Rattle.domain.specs.InCode.{sum_of}
use Rattle.domain.proofs.terms.Sum.is_same.Given as goal

abbrev pub invariant-loop-at : goal.invariant-loop-at
invariant-loop-at l = (same_sum (drop l.at (sum_of l.self)) (drop l.at (sum_of l.other)) ≡ same_sum (sum_of l.self) (sum_of l.other)) × (length (sum_of l.self) ≡ length (sum_of l.other))
