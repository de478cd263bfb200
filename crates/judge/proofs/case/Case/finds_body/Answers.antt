use Rattle.std.proofs.Common.{◌∙◌, sym}
use Rattle.judge.specs.Judged.{case_kept}
use Rattle.judge.proofs.LineLemmas.{nowhere, is_unlisted}
use Rattle.judge.proofs.case.Case.finds_body.Goals as goal

pub returns-in_default-clause-nowhere : goal.returns-in_default-clause-nowhere
returns-in_default-clause-nowhere g c = λ q. nowhere (case_kept g.C.Claims.claims c.args.self.now) c.args.at c.in_default.ensures.none

pub returns-in-Routine-clause-nowhere : goal.returns-in-Routine-clause-nowhere
returns-in-Routine-clause-nowhere g c = λ q. is_unlisted (case_kept g.C.Claims.claims c.args.self.now) c.args.at c.in-Routine.entry (rw c.in-Routine.is at c.in-Some.ensures.only) (sym c.turn_to.ensures.listed ∙ q)
