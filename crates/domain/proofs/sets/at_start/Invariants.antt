use Rattle.wordset.specs.Words.{nothing}
use Rattle.wordset.specs.Lanes.{words}
use Rattle.wordset.proofs.IterLemmas.{Gathered}
use Rattle.peripherals.specs.Loading.{image_of}
use Rattle.domain.specs.Locations.{tape_word}
use Rattle.domain.proofs.sets.at_start.Given as goal

abbrev pub invariant-loop-cell : goal.invariant-loop-cell
invariant-loop-cell l = Gathered (λ a. tape_word (image_of l.image a)) (words l.cells) nothing (words l.found) l.cell-iterator
