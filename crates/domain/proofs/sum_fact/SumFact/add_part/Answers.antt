use Rattle.std.proofs.Common.{◌<◌, length, sym, ap, ◌∙◌, arith}
use Rattle.wordset.specs.Lanes.{words}
use Rattle.peripherals.specs.Loading.{image_of}
use Rattle.domain.specs.Terms.{Summand}
use Rattle.domain.specs.Facts.{OfSums}
use Rattle.domain.specs.Adding.{adding}
use Rattle.domain.specs.Narrowing.{of_term}
use Rattle.domain.specs.InCode.{sum_of}
use Rattle.domain.specs.FactInCode.{fact_in_code}
use Rattle.domain.proofs.PartLemmas.{part_none, part_one, part_more}
use Rattle.domain.proofs.sum_fact.SumFact.add_part.Goals as goal

pub returns-then-len-eq0-clause-fact : goal.returns-then-len-eq0-clause-fact
returns-then-len-eq0-clause-fact g c = part_none (image_of c.args.image.now) (words c.args.set.now) (fact_in_code c.args.self.now) (sum_of c.args.part.now) (sym c.len-len.ensures.count ∙ c.if-len-eq0.true)

pub returns-then-len-eq1-clause-fact : goal.returns-then-len-eq1-clause-fact
returns-then-len-eq1-clause-fact g c =
    c.keep_term.ensures.fact ∙ ap (λ (s : Summand). adding OfSums (of_term (image_of c.args.image.now) s.coefficient s.term (words c.args.set.now)) (fact_in_code c.args.self.now)) c.get-summand.ensures
    ∙ part_one (image_of c.args.image.now) (words c.args.set.now) (fact_in_code c.args.self.now) (sum_of c.args.part.now) (sym c.len-len.ensures.count ∙ c.if-len-eq1.true)

pub returns-clause-fact : goal.returns-clause-fact
returns-clause-fact g c =
    let more : 1 < length (sum_of c.args.part.now) = omega (arith, c.len-len.ensures.count, c.if-len-eq0.false, c.if-len-eq1.false) in
    c.add.ensures.fact ∙ part_more (image_of c.args.image.now) (words c.args.set.now) (fact_in_code c.args.self.now) (sum_of c.args.part.now) more
