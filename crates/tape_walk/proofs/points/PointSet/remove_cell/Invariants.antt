use Rattle.std.proofs.Common.{◌≡◌, ◌<◌, ℕ}
use Rattle.std.specs.Prelude.{◌&&◌, ◌==◌, nat_lt, not}
use Rattle.tape_walk.specs.Points.{has}
use Rattle.tape_walk.proofs.points.PointSet.remove_cell.Given as goal

-- with the offsets so far the set lacks the cell
abbrev pub invariant-loop-offset : goal.invariant-loop-offset
invariant-loop-offset l = (o a : ℕ) → o < 8 →
    has l.self o a ≡ (has l.initial.self o a && not (nat_lt o l.offset && a == l.at))
