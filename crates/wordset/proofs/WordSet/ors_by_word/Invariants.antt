use Rattle.wordset.specs.Bits.{ors_with}
use Rattle.wordset.specs.Words.{nothing}
use Rattle.wordset.specs.Lanes.{words}
use Rattle.wordset.proofs.IterLemmas.{Gathered}
use Rattle.wordset.proofs.WordSet.ors_by_word.Given as goal

abbrev pub invariant-loop-word : goal.invariant-loop-word
invariant-loop-word l = Gathered (λ x. ors_with x (words l.other)) (words l.self) nothing (words l.found) l.word-iterator
