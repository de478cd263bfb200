use Rattle.std.proofs.Common.{ap, ◌∙◌}
use Rattle.wordset.specs.Words.{Words}
use Rattle.domain.specs.Adding.{times}
use Rattle.domain.specs.InCode.{sum_of}
use Rattle.domain.proofs.FactLemmas.{nothing_given, shape_given}
use Rattle.facts.specs.StartInCode.{start_in_code}
use Rattle.facts.proofs.starts.StartFactKnownFact.put_set_of_sum.Goals as goal

pub returns-in-None : goal.returns-in-None
returns-in-None c = c.all.ensures ∙ nothing_given (sum_of c.args.sum.now) (start_in_code c.args.self.now) c.in-None.ensures

pub returns-in-Some : goal.returns-in-Some
returns-in-Some c =
    c.times.ensures ∙ ap (λ (w : Words). times c.in-Some.found.sign w) c.put_set_of_shape.ensures
    ∙ shape_given (sum_of c.args.sum.now) (start_in_code c.args.self.now) (record { sum = sum_of c.in-Some.found.sum; sign = c.in-Some.found.sign }) c.in-Some.ensures
