use Rattle.std.proofs.Common.{ap, ◌∙◌}
use Rattle.wordset.specs.Words.{Words}
use Rattle.wordset.specs.Lanes.{words}
use Rattle.domain.specs.Locations.{Location}
use Rattle.domain.specs.CellsInCode.{cell_sets_of}
use Rattle.domain.specs.FactInCode.{fact_in_code}
use Rattle.domain.proofs.FactLemmas.{ac_replaced}
use Rattle.transfer.proofs.additions.put_accumulator.Goals as goal

pub returns-clause-fact : goal.returns-clause-fact
returns-clause-fact g c =
    c.set_accumulator.ensures.fact
    ∙ ap (λ (s : Location → Words). record (fact_in_code c.args.fact.now) { set = s }) (ac_replaced (words c.args.fact.now.ac) (words c.args.set.now) (cell_sets_of c.args.fact.now.cells))
