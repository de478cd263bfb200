use Rattle.std.proofs.Common.{◌≡◌, drop}
use Rattle.domain.specs.Terms.{speaks_of}
use Rattle.domain.specs.InCode.{sum_of}
use Rattle.domain.specs.Naming.{names_of}
use Rattle.domain.proofs.terms.Sum.speaks_of.Given as goal

abbrev pub invariant-loop-at : goal.invariant-loop-at
invariant-loop-at l = speaks_of (names_of l.names) (drop l.at (sum_of l.self)) ≡ speaks_of (names_of l.names) (sum_of l.self)
