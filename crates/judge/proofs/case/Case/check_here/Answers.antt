use Rattle.std.proofs.Common.{ap, length, arith}
use Rattle.judge.specs.Judged.{case_kept}
use Rattle.judge.proofs.LineLemmas.{no_body}
use Rattle.judge.proofs.case.Case.check_here.Goals as goal

pub returns-then-not-finds_body-clause-checked : goal.returns-then-not-finds_body-clause-checked
returns-then-not-finds_body-clause-checked g c =
    no_body (case_kept g.C.Claims.claims c.args.self.now) c.args.at (omega (arith, ap length (c.turn_to.ensures.alone c.if-not-turn_to.false))) (c.finds_body.ensures.nowhere c.if-not-finds_body.true)
