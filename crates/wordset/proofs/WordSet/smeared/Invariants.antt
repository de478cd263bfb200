use Rattle.std.proofs.Common.{◌≡◌, ◌≤◌, ◌-◌}
use Rattle.wordset.specs.Words.{smeared}
use Rattle.wordset.specs.Lanes.{words}
use Rattle.wordset.proofs.WordSet.smeared.Given as goal

abbrev pub invariant-loop-reach : goal.invariant-loop-reach
invariant-loop-reach l = (1 ≤ l.reach) × (l.reach ≤ l.count) × (words l.found ≡ smeared (words l.self) l.reach)

abbrev pub decreases-loop-reach : goal.decreases-loop-reach
decreases-loop-reach l = l.count - l.reach
