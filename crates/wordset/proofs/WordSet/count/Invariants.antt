use Rattle.std.proofs.Common.{◌≡◌, ◌*◌}
use Rattle.wordset.specs.Words.{how_many}
use Rattle.wordset.specs.Lanes.{words}
use Rattle.wordset.proofs.WordSet.count.Given as goal

abbrev pub invariant-loop-i : goal.invariant-loop-i
invariant-loop-i l = l.total ≡ how_many (64 * l.i) (words l.self-inside.lanes)
