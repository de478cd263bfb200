use Rattle.std.proofs.Common.{◌%◌, ◌^◌}
use Rattle.wordset.specs.Words.{SameWords}
use Rattle.wordset.specs.Lanes.{words}
use Rattle.wordset.proofs.Halves.{lowered}
use Rattle.wordset.proofs.WordSet.ands_with_all.Given as goal

abbrev pub invariant-loop-at : goal.invariant-loop-at
invariant-loop-at l = SameWords (words l.found) (lowered (4095 % 2 ^ l.at) (words l.self))
