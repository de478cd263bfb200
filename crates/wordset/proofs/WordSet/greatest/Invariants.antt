use Rattle.std.proofs.Common.{◌≡◌, ◌*◌, ◌-◌, ◌<◌, ◌≤◌, ℕ, false}
use Rattle.wordset.specs.Lanes.{words}
use Rattle.wordset.proofs.WordSet.greatest.Given as goal

abbrev pub invariant-loop-n : goal.invariant-loop-n
invariant-loop-n l = (v : ℕ) → 64 * (64 - l.n) ≤ v → v < 4096 → words l.self-inside.lanes v ≡ false
