use Rattle.wordset.specs.Lanes.{words}
use Rattle.wordset.proofs.SmearLemmas.{Summed}
use Rattle.wordset.proofs.WordSet.sums_by_range.Given as goal

abbrev pub invariant-loop-low : goal.invariant-loop-low
invariant-loop-low l = Summed (words l.self) (words l.other) (words l.found) l.low-iterator
