use Rattle.std.proofs.Common.{◌%◌, ◌^◌}
use Rattle.wordset.specs.Words.{SameWords}
use Rattle.wordset.specs.Bits.{ors_with}
use Rattle.wordset.specs.Lanes.{words}
use Rattle.wordset.proofs.WordSet.or_word.Given as goal

abbrev pub invariant-loop-at : goal.invariant-loop-at
invariant-loop-at l = SameWords (words l.found) (ors_with (l.bits % 2 ^ l.at) (words l.self))
