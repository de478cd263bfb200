use Rattle.std.proofs.Common.{◌≡◌, ◌+◌, ◌≤◌, drop, length, map}
use Rattle.std.specs.Prelude.{flat_map}
use Rattle.wordset.specs.Lanes.{words}
use Rattle.domain.specs.Facts.{OfSums}
use Rattle.domain.specs.Adding.{adding_all}
use Rattle.domain.specs.CellsInCode.{cell_sets_of}
use Rattle.domain.specs.RelationsInCode.{relation_of, relations_of}
use Rattle.domain.specs.FactInCode.{fact_in_code}
use Rattle.transfer.specs.Stores.{after_store}
use Rattle.transfer.proofs.stores.add_each_after_store.Given as goal

abbrev pub invariant-loop-relation : goal.invariant-loop-relation
invariant-loop-relation g l =
    (adding_all OfSums (flat_map (after_store l.cell (words l.by)) (map relation_of (drop l.relation-index l.relations))) (fact_in_code l.after) ≡
    adding_all OfSums (flat_map (after_store l.cell (words l.by)) (map relation_of l.relations)) (fact_in_code l.fn.after)) ×
    (length (cell_sets_of l.after.cells) ≤ length (cell_sets_of l.fn.after.cells) + l.relation-index) ×
    (length (relations_of l.after.relations) ≤ length (relations_of l.fn.after.relations) + l.relation-index)
