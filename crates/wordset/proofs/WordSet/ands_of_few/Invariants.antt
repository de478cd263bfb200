use Rattle.wordset.specs.Bits.{ands_with}
use Rattle.wordset.specs.Words.{nothing}
use Rattle.wordset.specs.Lanes.{words}
use Rattle.wordset.proofs.IterLemmas.{Gathered}
use Rattle.wordset.proofs.WordSet.ands_of_few.Given as goal

abbrev pub invariant-loop-word : goal.invariant-loop-word
invariant-loop-word l = Gathered (λ x. ands_with x (words l.other)) (words l.self) nothing (words l.found) l.word-iterator
