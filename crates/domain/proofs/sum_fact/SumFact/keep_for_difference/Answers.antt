use Rattle.std.proofs.Common.{◌∙◌, ap, sym}
use Rattle.peripherals.specs.Loading.{image_of}
use Rattle.domain.specs.LocationsInCode.{location_of}
use Rattle.domain.specs.Terms.{Sum}
use Rattle.domain.specs.Facts.{Fact, OfSums}
use Rattle.domain.specs.Adding.{adding_all}
use Rattle.domain.specs.Narrowing.{parts_of}
use Rattle.domain.specs.Brief.{brief_words}
use Rattle.domain.specs.FactInCode.{fact_in_code}
use Rattle.domain.proofs.sum_fact.SumFact.keep_for_difference.Goals as goal

pub returns-in-Some : goal.returns-in-Some
returns-in-Some g c = λ f h. c.keep_for_equation.ensures (image_of c.args.image.now) (brief_words c.args.relation.now.set) f (sym c.only.ensures ∙ c.in-Some.is) h
    ∙ ap (λ (s : Sum). (adding_all OfSums (parts_of (image_of c.args.image.now) (fact_in_code c.args.self.now) s (brief_words c.args.relation.now.set)) f).set (location_of c.args.name.now)) (sym c.requires)
