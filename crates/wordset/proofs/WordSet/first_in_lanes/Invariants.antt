use Rattle.std.proofs.Common.{◌≡◌, ◌*◌, ◌<◌, ◌≤◌, ℕ, false}
use Rattle.wordset.specs.Lanes.{words}
use Rattle.wordset.proofs.WordSet.first_in_lanes.Given as goal

abbrev pub invariant-loop-i : goal.invariant-loop-i
invariant-loop-i l = (v : ℕ) → 64 * l.fn.start ≤ v → v < 64 * l.i → words l.self-inside.lanes v ≡ false
