use Rattle.std.proofs.Common.{refl, ap, ◌∙◌, arith}
use Rattle.domain.specs.Terms.{Summand}
use Rattle.domain.specs.Adding.{set_of_term}
use Rattle.domain.specs.InCode.{sum_of}
use Rattle.domain.proofs.FactLemmas.{given_of_one}
use Rattle.facts.specs.StartInCode.{start_in_code}
use Rattle.facts.proofs.BeginningLemmas.{not_of_one}
use Rattle.facts.proofs.start_fact.StartFact.put_set_of_shape.Goals as goal

pub returns-then-len-ne1 : goal.returns-then-len-ne1
returns-then-len-ne1 c = c.all.ensures ∙ not_of_one (start_in_code c.args.self.now) (sum_of c.args.sum.now) refl (λ e. omega (arith, e, c.len.ensures.count, c.if-len-ne1.true))

pub returns : goal.returns
returns c =
    c.put_set_of_term.ensures ∙ ap (λ (s : Summand). set_of_term (start_in_code c.args.self.now) s.term) c.get.ensures
    ∙ given_of_one (start_in_code c.args.self.now) (sum_of c.args.sum.now) (omega (arith, c.len.ensures.count, c.if-len-ne1.false))
