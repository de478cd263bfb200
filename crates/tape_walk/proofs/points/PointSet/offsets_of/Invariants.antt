use Rattle.std.proofs.Common.{◌≡◌, ◌<◌, ℕ}
use Rattle.std.specs.Prelude.{◌&&◌, nat_lt}
use Rattle.wordset.specs.Lanes.{words}
use Rattle.tape_walk.specs.Points.{has}
use Rattle.tape_walk.proofs.points.PointSet.offsets_of.Given as goal

-- the offsets so far with which the cell is in the set
abbrev pub invariant-loop-offset : goal.invariant-loop-offset
invariant-loop-offset l = (o : ℕ) → o < 8 → words l.offsets o ≡ (nat_lt o l.offset && has l.self o l.at)
