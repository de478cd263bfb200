use Rattle.wordset.specs.Lanes.{words}
use Rattle.judge.specs.Judged.{case_kept}
use Rattle.judge.specs.Landing.{sited}
use Rattle.judge.proofs.CaseLemmas.{HeldBehind}
use Rattle.judge.proofs.case.Case.exits_are_held_by.Given as goal

abbrev pub invariant-loop-index : goal.invariant-loop-index
invariant-loop-index g l =
    HeldBehind (case_kept g.C.Claims.claims l.self) l.fn.entry l.fn.offset
    (sited (case_kept g.C.Claims.claims l.self).certificate.rules (words l.sites) ((case_kept g.C.Claims.claims l.self).certificate.exits l.fn.entry l.fn.offset)) l.index
