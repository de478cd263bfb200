use Rattle.std.proofs.Common.{◌<◌, ◌∙◌, ap, sym, length, arith}
use Rattle.wordset.specs.Lanes.{words}
use Rattle.peripherals.specs.Loading.{image_of}
use Rattle.domain.specs.LocationsInCode.{location_of}
use Rattle.domain.specs.Terms.{Summand}
use Rattle.domain.specs.Facts.{Fact, OfSums}
use Rattle.domain.specs.Adding.{adding}
use Rattle.domain.specs.Narrowing.{of_term}
use Rattle.domain.specs.InCode.{sum_of}
use Rattle.domain.proofs.PartLemmas.{part_none, part_one, part_more}
use Rattle.domain.proofs.queries.keep_for_part.Goals as goal

pub returns-then-len-eq0 : goal.returns-then-len-eq0
returns-then-len-eq0 c = λ f h. h ∙ ap (λ (g : Fact). g.set (location_of c.args.name.now)) (part_none (image_of c.args.image.now) (words c.args.set.now) f (sum_of c.args.part.now) (sym c.len-len.ensures.count ∙ c.if-len-eq0.true))

pub returns-then-len-eq1 : goal.returns-then-len-eq1
returns-then-len-eq1 c = λ f h. c.keep_for_term.ensures f h
    ∙ ap (λ (s : Summand). (adding OfSums (of_term (image_of c.args.image.now) s.coefficient s.term (words c.args.set.now)) f).set (location_of c.args.name.now)) c.get-summand.ensures
    ∙ ap (λ (g : Fact). g.set (location_of c.args.name.now)) (part_one (image_of c.args.image.now) (words c.args.set.now) f (sum_of c.args.part.now) (sym c.len-len.ensures.count ∙ c.if-len-eq1.true))

pub returns : goal.returns
returns c = λ f h.
    let more : 1 < length (sum_of c.args.part.now) = omega (arith, c.len-len.ensures.count, c.if-len-eq0.false, c.if-len-eq1.false) in
    c.keep_for_sum.ensures f h ∙ ap (λ (g : Fact). g.set (location_of c.args.name.now)) (part_more (image_of c.args.image.now) (words c.args.set.now) f (sum_of c.args.part.now) more)
