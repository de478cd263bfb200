use Rattle.std.proofs.Common.{◌≡◌, ◌-◌, drop}
use Rattle.domain.specs.Terms.{coefficient_in}
use Rattle.domain.specs.InCode.{term_of, sum_of}
use Rattle.domain.proofs.terms.Sum.coefficient_of.Given as goal

abbrev pub invariant-loop-done : goal.invariant-loop-done
invariant-loop-done l = l.coefficient ≡ coefficient_in (term_of l.term) (drop (l.len - l.done) (sum_of l.self))
