use Rattle.std.proofs.Common.{◌≡◌, ◌++◌, ◌∙◌, List, map, ap}
use Rattle.wordset.specs.Lanes.{words}
use Rattle.domain.specs.Locations.{Ac}
use Rattle.domain.specs.TrackedCells.{TrackedCell}
use Rattle.domain.specs.Facts.{Fact}
use Rattle.domain.specs.CellsInCode.{cell_sets_of, cell_set_of}
use Rattle.domain.specs.FactInCode.{fact_in_code, names_words}
use Rattle.domain.proofs.sum_fact.SumFact.take_over.Goals as goal

pub returns-clause-fact : goal.returns-clause-fact
returns-clause-fact g c =
    let cells : cell_sets_of c.push_all.new.self ≡ cell_sets_of c.args.other.now.cells =
    c.push_all.ensures ∙ ap (λ (xs : List TrackedCell). xs ++ map cell_set_of c.as_slice.result.now) c.take_over_rest.ensures.cells ∙ c.as_slice.ensures.cells in
    ap (λ (cs : List TrackedCell). record (fact_in_code c.take_over_rest.new.self) { set = names_words (words c.take_over_rest.new.self.ac) cs }) cells
    ∙ ap (λ (x : Fact). record x { set = names_words (x.set Ac) (cell_sets_of c.args.other.now.cells) }) c.take_over_rest.ensures.fact

pub returns-clause-cells : goal.returns-clause-cells
returns-clause-cells g c =
    c.push_all.ensures ∙ ap (λ (xs : List TrackedCell). xs ++ map cell_set_of c.as_slice.result.now) c.take_over_rest.ensures.cells ∙ c.as_slice.ensures.cells
