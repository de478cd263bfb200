use Rattle.std.proofs.Common.{◌≡◌, drop}
use Rattle.domain.specs.Moves.{has_behind}
use Rattle.domain.specs.InCode.{sum_of}
use Rattle.domain.proofs.terms.Sum.has_behind.Given as goal

abbrev pub invariant-loop-at : goal.invariant-loop-at
invariant-loop-at l = has_behind l.cell (drop l.at (sum_of l.self)) ≡ has_behind l.cell (sum_of l.self)
