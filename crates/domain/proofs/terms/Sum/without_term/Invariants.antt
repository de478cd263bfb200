use Rattle.std.proofs.Common.{◌≡◌, ◌≤◌, ◌++◌, drop, length}
use Rattle.domain.specs.Terms.{without_term}
use Rattle.domain.specs.InCode.{term_of, sum_of}
use Rattle.domain.proofs.terms.Sum.without_term.Given as goal

abbrev pub invariant-loop-at : goal.invariant-loop-at
invariant-loop-at l = ((sum_of l.sum ++ without_term (term_of l.term) (drop l.at (sum_of l.self))) ≡ without_term (term_of l.term) (sum_of l.self)) × (length (sum_of l.sum) ≤ l.at)
