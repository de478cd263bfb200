use Rattle.std.proofs.Common.{◌∙◌, ap, arith}
use Rattle.wordset.specs.Words.{Words}
use Rattle.wordset.specs.Lanes.{words}
use Rattle.domain.specs.LocationsInCode.{location_of}
use Rattle.domain.specs.Terms.{Summand}
use Rattle.domain.specs.Adding.{times, with_term_in}
use Rattle.domain.specs.InCode.{sum_of, summand_at}
use Rattle.domain.proofs.NameAskedLemmas.{shape_not_one, shape_of_one}
use Rattle.domain.proofs.queries.keep_for_shape.Goals as goal

pub returns-then-len-ne1 : goal.returns-then-len-ne1
returns-then-len-ne1 c = λ f h. h ∙ shape_not_one f (location_of c.args.name.now) (times c.args.found.now.sign (words c.args.set.now)) (sum_of c.args.found.now.sum) (λ one. absurd (omega (arith, one, c.len.ensures.count, c.if-len-ne1.true)))

pub returns : goal.returns
returns c = λ f h. c.keep_for_name.ensures f h
    ∙ ap (λ (s : Summand). (with_term_in s.term (words c.times.result) f).set (location_of c.args.name.now)) c.get.ensures
    ∙ ap (λ (s : Words). (with_term_in (summand_at (sum_of c.args.found.now.sum) 0).term s f).set (location_of c.args.name.now)) c.times.ensures
    ∙ shape_of_one f (location_of c.args.name.now) (times c.args.found.now.sign (words c.args.set.now)) (sum_of c.args.found.now.sum) (omega (arith, c.len.ensures.count, c.if-len-ne1.false))
