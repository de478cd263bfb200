use Rattle.std.proofs.Common.{◌≡◌, ◌<◌, ℕ}
use Rattle.std.specs.Prelude.{◌&&◌, ◌||◌, nat_lt}
use Rattle.tape_walk.specs.Points.{has}
use Rattle.tape_walk.proofs.points.PointSet.insert_all.Given as goal

-- with the offsets so far the set has the points of both
abbrev pub invariant-loop-offset : goal.invariant-loop-offset
invariant-loop-offset l = (o a : ℕ) → o < 8 →
    has l.self o a ≡ (has l.initial.self o a || (nat_lt o l.offset && has l.other o a))
