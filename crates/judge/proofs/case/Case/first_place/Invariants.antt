use Rattle.judge.specs.Judged.{case_kept}
use Rattle.judge.proofs.AskedLemmas.{SoFar}
use Rattle.judge.proofs.case.Case.first_place.Given as goal

abbrev pub invariant-loop-index : goal.invariant-loop-index
invariant-loop-index g l =
    SoFar (case_kept g.C.Claims.claims l.self) l.body.routine l.at ((case_kept g.C.Claims.claims l.self).certificate.facts l.at) l.index l.limit
