use Rattle.std.proofs.Common.{◌∙◌, ap}
use Rattle.wordset.specs.Words.{Words}
use Rattle.wordset.specs.Lanes.{words}
use Rattle.domain.specs.Locations.{Location, Ac}
use Rattle.domain.specs.Adding.{with_name}
use Rattle.domain.specs.CellsInCode.{cell_sets_of}
use Rattle.domain.specs.FactInCode.{fact_in_code}
use Rattle.domain.proofs.FactLemmas.{ac_replaced}
use Rattle.domain.proofs.sum_fact.SumFact.take_for_accumulator.Goals as goal

pub returns : goal.returns
returns g c =
    ap (λ (s : Location → Words). record (fact_in_code c.take_without.new.self) { set = s })
    (ac_replaced (words c.take_without.new.self.ac) (words c.args.set.now) (cell_sets_of c.take_without.new.self.cells))
    ∙ ap (with_name Ac (words c.args.set.now)) c.take_without.ensures.fact
