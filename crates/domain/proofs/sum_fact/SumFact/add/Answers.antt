use Rattle.std.proofs.Common.{ap, ◌∙◌}
use Rattle.wordset.specs.Words.{Words}
use Rattle.wordset.specs.Lanes.{words}
use Rattle.domain.specs.Adding.{with_shape_in}
use Rattle.domain.specs.InCode.{sum_of}
use Rattle.domain.specs.FactInCode.{fact_in_code, rules_of}
use Rattle.domain.proofs.FactLemmas.{nothing_added, shape_added}
use Rattle.domain.proofs.sum_fact.SumFact.add.Goals as goal

pub returns-in-None-clause-fact : goal.returns-in-None-clause-fact
returns-in-None-clause-fact g c = nothing_added (rules_of c.args.rules.now) (sum_of c.args.sum.now) (words c.args.set.now) (fact_in_code c.args.self.now) c.in-None.ensures

pub returns-in-Some-clause-fact : goal.returns-in-Some-clause-fact
returns-in-Some-clause-fact g c =
    c.add_shape.ensures.fact ∙ ap (λ (w : Words). with_shape_in (rules_of c.args.rules.now) (sum_of c.in-Some.found.sum) w (fact_in_code c.args.self.now)) c.times.ensures
    ∙ shape_added (rules_of c.args.rules.now) (sum_of c.args.sum.now) (words c.args.set.now) (fact_in_code c.args.self.now) (record { sum = sum_of c.in-Some.found.sum; sign = c.in-Some.found.sign }) c.in-Some.ensures
