use Rattle.std.proofs.Common.{sym, ap, ◌∙◌}
use Rattle.wordset.specs.Lanes.{words}
use Rattle.domain.specs.Terms.{Summand}
use Rattle.domain.specs.Adding.{with_term_in}
use Rattle.domain.specs.InCode.{sum_of}
use Rattle.domain.specs.FactInCode.{fact_in_code, rules_of}
use Rattle.domain.proofs.FactLemmas.{added_of_none, added_of_one}
use Rattle.domain.proofs.sum_fact.SumFact.add_shape.Goals as goal

pub returns-then-len-eq0-clause-fact : goal.returns-then-len-eq0-clause-fact
returns-then-len-eq0-clause-fact g c = added_of_none (rules_of c.args.rules.now) (words c.args.set.now) (fact_in_code c.args.self.now) (sum_of c.args.sum.now) (sym c.len-len.ensures.count ∙ c.if-len-eq0.true)

pub returns-then-len-eq1-clause-fact : goal.returns-then-len-eq1-clause-fact
returns-then-len-eq1-clause-fact g c =
    c.meet_term.ensures.fact ∙ ap (λ (s : Summand). with_term_in s.term (words c.args.set.now) (fact_in_code c.args.self.now)) c.get.ensures
    ∙ added_of_one (rules_of c.args.rules.now) (words c.args.set.now) (fact_in_code c.args.self.now) (sum_of c.args.sum.now) (sym c.len-len.ensures.count ∙ c.if-len-eq1.true)
