use Rattle.std.proofs.Common.{ap}
use Rattle.wordset.specs.Words.{Words}
use Rattle.wordset.specs.Lanes.{words}
use Rattle.domain.specs.Locations.{Location}
use Rattle.domain.specs.CellsInCode.{cell_sets_of}
use Rattle.domain.specs.FactInCode.{fact_in_code}
use Rattle.domain.proofs.FactLemmas.{cell_replaced, ac_replaced}
use Rattle.domain.proofs.sum_fact.SumFact.set_name.Goals as goal

pub returns-in-Accumulator-clause-fact : goal.returns-in-Accumulator-clause-fact
returns-in-Accumulator-clause-fact g c = rw c.in-Accumulator.is (
    ap (λ (w : Location → Words). record (fact_in_code c.args.self.now) { set = w }) (ac_replaced (words c.args.self.now.ac) (words c.args.set.now) (cell_sets_of c.args.self.now.cells)))

pub returns-in-Cell-clause-fact : goal.returns-in-Cell-clause-fact
returns-in-Cell-clause-fact g c = rw c.in-Cell.is (
    ap (λ (w : Location → Words). record (fact_in_code c.args.self.now) { set = w })
    (cell_replaced (words c.args.self.now.ac) (cell_sets_of c.replace.new.self) (cell_sets_of c.args.self.now.cells) c.in-Cell.cell (words c.args.set.now) c.replace.ensures.words))
