use Rattle.std.proofs.Common.{◌≡◌, ◌<◌, ℕ}
use Rattle.std.specs.Prelude.{false}
use Rattle.tape_walk.specs.Points.{has}
use Rattle.tape_walk.proofs.points.PointSet.first.Given as goal

-- the set has no point with an offset so far
abbrev pub invariant-loop-offset : goal.invariant-loop-offset
invariant-loop-offset l = (o a : ℕ) → o < l.offset → a < 4096 → has l.self o a ≡ false
