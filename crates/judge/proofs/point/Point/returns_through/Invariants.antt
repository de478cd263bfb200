use Rattle.std.proofs.Common.{ℕ, ◌<◌}
use Rattle.judge.specs.Callees.{ReturnsBy}
use Rattle.judge.specs.Points.{case_of, fact_asked}
use Rattle.judge.proofs.point.Point.returns_through.Given as goal

abbrev pub invariant-loop-offset : goal.invariant-loop-offset
invariant-loop-offset g l =
    (o : ℕ) → o < l.offset → ReturnsBy (case_of g.C.Claims.claims l.self) l.entry (fact_asked l.self) o
