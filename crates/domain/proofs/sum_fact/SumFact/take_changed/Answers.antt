use Rattle.std.proofs.Common.{◌≡◌, ◌∙◌, ◌++◌, List, map, ap}
use Rattle.wordset.specs.Words.{Words}
use Rattle.wordset.specs.Lanes.{words}
use Rattle.domain.specs.Locations.{Location, Ac, Cell}
use Rattle.domain.specs.TrackedCells.{TrackedCell}
use Rattle.domain.specs.Facts.{Fact}
use Rattle.domain.specs.CellsInCode.{cell_sets_of, cell_set_of}
use Rattle.domain.specs.Moves.{weakly_updated_sets}
use Rattle.domain.specs.Taken.{changed, changed_among}
use Rattle.domain.specs.FactInCode.{fact_in_code, names_words}
use Rattle.domain.proofs.TakenLemmas.{weak_sets, change_past}
use Rattle.domain.proofs.sum_fact.SumFact.take_changed.Goals as goal

pub returns : goal.returns
returns g c =
    let others : List TrackedCell = cell_sets_of c.args.other.now.cells in
    let change = changed_among (words c.args.among.now) (changed c.args.change.now) others in
    let cells : cell_sets_of c.push_all_changed.new.cells ≡ map change others =
    c.push_all_changed.ensures ∙ ap (λ (xs : List TrackedCell). xs ++ map change (map cell_set_of c.as_slice.result.now)) c.clear.ensures ∙ ap (map change) c.as_slice.ensures.cells in
    ap (λ (s : Location → Words). record (fact_in_code c.take_without.new.self) { set = s })
    (ap (names_words (words c.take_without.new.self.ac)) cells
    ∙ weak_sets (words c.take_without.new.self.ac) (words c.args.other.now.ac) (words c.args.among.now) (changed c.args.change.now) others
    (ap (λ (x : Fact). x.set Ac) c.take_without.ensures.fact) (change_past c.args.change.now))
    ∙ ap (λ (x : Fact). record x { set = λ n. weakly_updated_sets (words c.args.among.now) (λ a. changed c.args.change.now (names_words (words c.args.other.now.ac) others (Cell a))) (names_words (words c.args.other.now.ac) others) n }) c.take_without.ensures.fact
