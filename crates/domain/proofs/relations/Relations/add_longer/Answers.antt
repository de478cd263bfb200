use Rattle.std.proofs.Common.{◌∙◌, ap}
use Rattle.wordset.specs.Lanes.{words}
use Rattle.domain.specs.Facts.{Fact, OfSums}
use Rattle.domain.specs.InCode.{sum_of}
use Rattle.domain.proofs.FactLemmas.{nothing_added, shape_added}
use Rattle.domain.proofs.relations.Relations.add_longer.Goals as goal

pub returns-in-None-clause-relations : goal.returns-in-None-clause-relations
returns-in-None-clause-relations g c = λ f h. h ∙ ap (λ (x : Fact). x.relations) (nothing_added OfSums (sum_of c.args.sum.now) (words c.args.set.now) f c.in-None.ensures)

pub returns-in-Some-clause-relations : goal.returns-in-Some-clause-relations
returns-in-Some-clause-relations g c = λ f h. c.add_spelled.ensures.relations f h
    ∙ ap (λ (x : Fact). x.relations) (shape_added OfSums (sum_of c.args.sum.now) (words c.args.set.now) f (record { sum = sum_of c.in-Some.found.sum; sign = c.in-Some.found.sign }) c.in-Some.ensures)
