use Rattle.std.proofs.Common.{◌<◌, length, sym, ap, ◌∙◌, arith}
use Rattle.domain.specs.Terms.{Summand}
use Rattle.domain.specs.Adding.{set_of_term}
use Rattle.domain.specs.InCode.{sum_of}
use Rattle.domain.specs.FactInCode.{fact_in_code}
use Rattle.domain.proofs.FactLemmas.{given_of_none, given_of_one, given_of_more}
use Rattle.domain.proofs.sum_fact.SumFact.put_set_of_shape.Goals as goal

pub returns-then-len-eq0 : goal.returns-then-len-eq0
returns-then-len-eq0 g c = c.all.ensures ∙ given_of_none (fact_in_code c.args.self.now) (sum_of c.args.sum.now) (sym c.len-len.ensures.count ∙ c.if-len-eq0.true)

pub returns-then-len-eq1 : goal.returns-then-len-eq1
returns-then-len-eq1 g c =
    c.put_set_of_term.ensures ∙ ap (λ (s : Summand). set_of_term (fact_in_code c.args.self.now) s.term) c.get.ensures
    ∙ given_of_one (fact_in_code c.args.self.now) (sum_of c.args.sum.now) (sym c.len-len.ensures.count ∙ c.if-len-eq1.true)

pub returns : goal.returns
returns g c =
    let more : 1 < length (sum_of c.args.sum.now) = omega (arith, c.len-len.ensures.count, c.if-len-eq0.false, c.if-len-eq1.false) in
    c.put_set_among.ensures ∙ given_of_more (fact_in_code c.args.self.now) (sum_of c.args.sum.now) more
