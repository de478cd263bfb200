use Rattle.std.proofs.Common.{◌-◌}
use Rattle.judge.specs.Judged.{case_kept}
use Rattle.judge.proofs.CaseLemmas.{HeldBefore}
use Rattle.judge.proofs.case.Case.exits_are_held.Given as goal

abbrev pub invariant-loop-offset : goal.invariant-loop-offset
invariant-loop-offset g l =
    HeldBefore (case_kept g.C.Claims.claims l.self) l.entry l.from

abbrev pub decreases-loop-offset : goal.decreases-loop-offset
decreases-loop-offset g l =
    64 - l.from
