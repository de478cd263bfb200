use Rattle.std.proofs.Common.{◌-◌}
use Rattle.judge.specs.Points.{case_of, fact_asked}
use Rattle.judge.proofs.CallLemmas.{LandsBefore}
use Rattle.judge.proofs.point.Point.lands_after.Given as goal

abbrev pub invariant-loop-offset : goal.invariant-loop-offset
invariant-loop-offset g l =
    LandsBefore (case_of g.C.Claims.claims l.self) l.self.place.routine l.self.at l.entry (fact_asked l.self) l.from

abbrev pub decreases-loop-offset : goal.decreases-loop-offset
decreases-loop-offset g l =
    64 - l.from
