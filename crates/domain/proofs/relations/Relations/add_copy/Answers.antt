use Rattle.std.proofs.Common.{◌∙◌, ap}
use Rattle.wordset.specs.Words.{Words}
use Rattle.domain.specs.Facts.{OfSums}
use Rattle.domain.specs.Adding.{adding}
use Rattle.domain.specs.InCode.{sum_of}
use Rattle.domain.proofs.relations.Relations.add_copy.Goals as goal

pub returns-clause-relations : goal.returns-clause-relations
returns-clause-relations g c = λ f h. c.add_longer.ensures.relations f h
    ∙ ap (λ (s : Words). (adding OfSums (record { sum = sum_of c.args.relation.now.sum; set = s }) f).relations) c.put.ensures
