use Rattle.std.proofs.Common.{◌==◌}
use Rattle.std.specs.Prelude.{bit_and}
use Rattle.wordset.specs.Lanes.{words}
use Rattle.wordset.proofs.IterLemmas.{Gathered}
use Rattle.wordset.proofs.WordSet.put_ands_with.Given as goal

abbrev pub invariant-loop-other : goal.invariant-loop-other
invariant-loop-other l = Gathered (λ y v. bit_and l.word y == v) (words l.self) (words l.fn.found) (words l.found) l.other-iterator
