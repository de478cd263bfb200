use Rattle.std.proofs.Common.{◌≡◌, ◌++◌, drop, length}
use Rattle.domain.specs.Terms.{multiplied}
use Rattle.domain.specs.InCode.{sum_of}
use Rattle.domain.proofs.terms.Sum.multiplied.Given as goal

abbrev pub invariant-loop-at : goal.invariant-loop-at
invariant-loop-at l = ((sum_of l.sum ++ multiplied l.c (drop l.at (sum_of l.self))) ≡ multiplied l.c (sum_of l.self)) × (length (sum_of l.sum) ≡ l.at)
