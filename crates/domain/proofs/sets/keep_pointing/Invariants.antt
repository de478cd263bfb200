use Rattle.std.proofs.Common.{◌==◌, ◌*◌, ◌%◌, ◌&&◌}
use Rattle.wordset.specs.Words.{nothing, plus, some_below}
use Rattle.wordset.specs.Lanes.{words}
use Rattle.wordset.proofs.IterLemmas.{Gathered}
use Rattle.peripherals.specs.Loading.{image_of}
use Rattle.domain.specs.Locations.{tape_word}
use Rattle.domain.proofs.sets.keep_pointing.Given as goal

abbrev pub invariant-loop-word : goal.invariant-loop-word
invariant-loop-word l = Gathered (λ x v. (v == x) && some_below 4096 (λ w. tape_word (image_of l.image (plus x l.k)) w && words l.set ((l.c * w) % 4096)))
    (words l.fn.place) nothing (words l.found) l.word-iterator
