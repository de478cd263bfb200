use Rattle.std.proofs.Common.{◌∙◌, ap}
use Rattle.wordset.specs.Lanes.{words}
use Rattle.domain.specs.LocationsInCode.{location_of}
use Rattle.domain.specs.Facts.{Fact, OfSums}
use Rattle.domain.specs.InCode.{sum_of}
use Rattle.domain.proofs.FactLemmas.{nothing_added, shape_added}
use Rattle.domain.proofs.queries.keep_for_sum.Goals as goal

pub returns-in-None : goal.returns-in-None
returns-in-None c = λ f h. h ∙ ap (λ (g : Fact). g.set (location_of c.args.name.now)) (nothing_added OfSums (sum_of c.args.sum.now) (words c.args.set.now) f c.in-None.ensures)

pub returns-in-Some : goal.returns-in-Some
returns-in-Some c = λ f h. c.keep_for_shape.ensures f h
    ∙ ap (λ (g : Fact). g.set (location_of c.args.name.now)) (shape_added OfSums (sum_of c.args.sum.now) (words c.args.set.now) f (record { sum = sum_of c.in-Some.found.sum; sign = c.in-Some.found.sign }) c.in-Some.ensures)
