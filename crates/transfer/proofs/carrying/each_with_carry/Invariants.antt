use Rattle.wordset.specs.Words.{nothing}
use Rattle.wordset.specs.Lanes.{words}
use Rattle.wordset.proofs.IterLemmas.{Gathered}
use Rattle.transfer.specs.Shaped.{sums_with}
use Rattle.transfer.proofs.carrying.each_with_carry.Given as goal

abbrev pub invariant-loop-word : goal.invariant-loop-word
invariant-loop-word l = Gathered (λ x. sums_with 1 x (words l.b)) (words l.a) nothing (words l.found) l.word-iterator
