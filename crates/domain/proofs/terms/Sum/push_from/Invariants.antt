use Rattle.std.proofs.Common.{◌≡◌, ◌++◌, drop}
use Rattle.domain.specs.InCode.{sum_of}
use Rattle.domain.proofs.terms.Sum.push_from.Given as goal

abbrev pub invariant-loop-at : goal.invariant-loop-at
invariant-loop-at l = (sum_of l.self ++ drop l.at (sum_of l.other)) ≡ (sum_of l.fn.self ++ drop l.start (sum_of l.other))
