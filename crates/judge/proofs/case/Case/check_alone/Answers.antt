use Rattle.std.proofs.Common.{ap, length, subst, arith}
use Rattle.domain.specs.FactInCode.{fact_in_code}
use Rattle.domain.specs.declared.sum_fact.SumFact.{SumFact}
use Rattle.judge.specs.Asked.{IsLeastOf}
use Rattle.judge.specs.Judged.{case_kept}
use Rattle.judge.proofs.AskedLemmas.{least_alone}
use Rattle.judge.proofs.case.Case.check_alone.Goals as goal

pub tell-requires-clause-some : goal.tell-requires-clause-some
tell-requires-clause-some g c = omega (arith, ap length c.requires.alone)

pub tell-requires-clause-least : goal.tell-requires-clause-least
tell-requires-clause-least g c = least_alone (case_kept g.C.Claims.claims c.args.self.now) c.args.body.now.routine c.args.at (fact_in_code c.args.here.now.fact) c.check_claimed-place.result c.requires.alone
    (subst (λ (f : SumFact 64 32). IsLeastOf (case_kept g.C.Claims.claims c.args.self.now) c.args.body.now.routine c.args.at (fact_in_code f) 16 c.check_claimed-place.result) c.forget.ensures.fact c.check_claimed-place.ensures)
