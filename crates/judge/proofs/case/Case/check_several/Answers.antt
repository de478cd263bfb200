use Rattle.std.proofs.Common.{arith}
use Rattle.judge.specs.Judged.{case_kept}
use Rattle.judge.proofs.LineLemmas.{no_body}
use Rattle.judge.proofs.case.Case.check_several.Goals as goal

pub returns-then-not-finds_body-clause-checked : goal.returns-then-not-finds_body-clause-checked
returns-then-not-finds_body-clause-checked g c = no_body (case_kept g.C.Claims.claims c.args.self.now) c.args.at (omega (arith, c.count_facts-count.ensures, c.if-count-eq0.false)) (c.finds_body.ensures.nowhere c.if-not-finds_body.true)
