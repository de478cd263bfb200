use Rattle.std.proofs.Common.{◌%◌, ◌^◌}
use Rattle.wordset.specs.Words.{SameWords, or_any}
use Rattle.wordset.specs.Lanes.{words}
use Rattle.wordset.proofs.WordSet.or_any.Given as goal

abbrev pub invariant-loop-at : goal.invariant-loop-at
invariant-loop-at l = SameWords (words l.found) (or_any (l.parts % 2 ^ l.at) (words l.self))
