use Rattle.std.proofs.Common.{◌∙◌, ◌++◌, ◌∷◌, [], ap}
use Rattle.wordset.specs.Words.{Words}
use Rattle.domain.specs.InCode.{sum_of}
use Rattle.domain.specs.FactInCode.{fact_in_code}
use Rattle.certificate_lines.proofs.packed.load.relate_several.Goals as goal

pub returns-clause-fact : goal.returns-clause-fact
returns-clause-fact c =
    c.relate.ensures.fact ∙ ap (λ (set : Words). record (fact_in_code c.args.fact.now) {
      relations = (fact_in_code c.args.fact.now).relations ++ record { sum = sum_of c.args.sum.now; set = set } ∷ [];
    }) c.set_in.ensures
