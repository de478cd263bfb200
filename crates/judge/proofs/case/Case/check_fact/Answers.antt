use Rattle.std.proofs.Common.{subst}
use Rattle.domain.specs.Facts.{Fact}
use Rattle.judge.specs.Asked.{IsLeastOf}
use Rattle.judge.specs.Judged.{case_kept}
use Rattle.judge.proofs.case.Case.check_fact.Goals as goal

pub returns : goal.returns
returns g c = subst (λ (f : Fact). IsLeastOf (case_kept g.C.Claims.claims c.args.self.now) c.args.body.now.routine c.args.at f c.args.limit c.check_claimed.result) c.put_fact.ensures.fact c.check_claimed.ensures
