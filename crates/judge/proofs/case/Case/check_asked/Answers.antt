use Rattle.std.proofs.Common.{ap}
use Rattle.domain.specs.FactInCode.{fact_in_code}
use Rattle.judge.specs.Judged.{case_kept}
use Rattle.judge.specs.Points.{case_of}
use Rattle.judge.proofs.CaseLemmas.{same_point}
use Rattle.judge.proofs.case.Case.check_asked.Goals as goal

pub returns : goal.returns
returns g c =
    same_point (case_of g.C.Claims.claims c.of.result) (case_kept g.C.Claims.claims c.args.self.now) c.of.result.place.routine c.args.body.now.routine c.of.result.at c.args.at (fact_in_code c.of.result.fact.now) (fact_in_code c.args.fact.now) c.args.limit c.first_failing.result
    c.of.ensures.case c.of.ensures.routine c.of.ensures.at (ap (λ f. fact_in_code f) c.of.ensures.fact) c.first_failing.ensures
