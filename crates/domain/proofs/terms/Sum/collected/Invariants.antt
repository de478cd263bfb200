use Rattle.std.proofs.Common.{◌≡◌, ◌-◌, ◌≤◌, drop, length}
use Rattle.domain.specs.Terms.{collected}
use Rattle.domain.specs.InCode.{sum_of}
use Rattle.domain.proofs.terms.Sum.collected.Given as goal

abbrev pub invariant-loop-done : goal.invariant-loop-done
invariant-loop-done l = (sum_of l.sum ≡ collected (drop (l.len - l.done) (sum_of l.self))) × (length (sum_of l.sum) ≤ l.done)
