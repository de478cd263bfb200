use Rattle.judge.specs.Points.{case_of, fact_asked}
use Rattle.wordset.specs.Lanes.{words}
use Rattle.judge.specs.Landing.{sited}
use Rattle.judge.proofs.CallLemmas.{EachBehind}
use Rattle.judge.proofs.point.Point.lands_by.Given as goal

abbrev pub invariant-loop-index : goal.invariant-loop-index
invariant-loop-index g l =
    EachBehind (case_of g.C.Claims.claims l.self) l.self.place.routine l.self.at l.fn.entry l.fn.offset (fact_asked l.self)
    (sited (case_of g.C.Claims.claims l.self).certificate.rules (words l.callee.sites) ((case_of g.C.Claims.claims l.self).certificate.exits l.fn.entry l.fn.offset)) l.index
