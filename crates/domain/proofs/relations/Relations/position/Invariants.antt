use Rattle.std.proofs.Common.{◌≡◌, ◌++◌, take, drop}
use Rattle.wordset.specs.Words.{Words}
use Rattle.domain.specs.Adding.{with_relation}
use Rattle.domain.specs.InCode.{sum_of}
use Rattle.domain.specs.RelationsInCode.{relations_of}
use Rattle.domain.proofs.relations.Relations.position.Given as goal

abbrev pub invariant-loop-at : goal.invariant-loop-at
invariant-loop-at g l = (set : Words) → (take l.at (relations_of l.self) ++ with_relation (sum_of l.sum) set (drop l.at (relations_of l.self))) ≡ with_relation (sum_of l.sum) set (relations_of l.self)
