use Rattle.std.proofs.Common.{◌==◌, ◌*◌, ◌%◌, ◌&&◌}
use Rattle.wordset.specs.Words.{nothing}
use Rattle.wordset.specs.Lanes.{words}
use Rattle.wordset.proofs.IterLemmas.{Gathered}
use Rattle.domain.proofs.sets.keep_each_divided.Given as goal

abbrev pub invariant-loop-word : goal.invariant-loop-word
invariant-loop-word l = Gathered (λ x v. (v == x) && words l.set ((l.c * x) % 4096)) (words l.fn.place) nothing (words l.found) l.word-iterator
