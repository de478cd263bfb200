use Rattle.std.proofs.Common.{◌≡◌, ◌++◌, drop, length}
use Rattle.domain.specs.Terms.{with_summand}
use Rattle.domain.specs.InCode.{term_of, sum_of}
use Rattle.domain.proofs.terms.Sum.with_summand.Given as goal

abbrev pub invariant-loop-at : goal.invariant-loop-at
invariant-loop-at l = ((sum_of l.sum ++ with_summand l.summand.coefficient (term_of l.summand.term) (drop l.at (sum_of l.self))) ≡ with_summand l.summand.coefficient (term_of l.summand.term) (sum_of l.self)) × (length (sum_of l.sum) ≡ l.at)
