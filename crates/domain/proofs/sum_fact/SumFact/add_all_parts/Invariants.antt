use Rattle.std.proofs.Common.{◌≡◌, ◌+◌, ◌*◌, ◌≤◌, drop, length, map}
use Rattle.peripherals.specs.Loading.{image_of}
use Rattle.domain.specs.Facts.{OfSums}
use Rattle.domain.specs.Adding.{adding_all}
use Rattle.domain.specs.CellsInCode.{cell_sets_of}
use Rattle.domain.specs.RelationsInCode.{relation_of, relations_of}
use Rattle.domain.specs.FactInCode.{fact_in_code, all_parts}
use Rattle.domain.proofs.sum_fact.SumFact.add_all_parts.Given as goal

abbrev pub invariant-loop-relation : goal.invariant-loop-relation
invariant-loop-relation g l =
    (adding_all OfSums (all_parts (image_of l.image) (fact_in_code l.fact) (map relation_of (drop l.relation-index l.relations))) (fact_in_code l.self)
    ≡ adding_all OfSums (all_parts (image_of l.image) (fact_in_code l.fact) (map relation_of l.relations)) (fact_in_code l.fn.self))
    × (length (cell_sets_of l.self.cells) ≤ length (cell_sets_of l.fn.self.cells) + 2 * l.relation-index)
    × (length (relations_of l.self.relations) ≤ length (relations_of l.fn.self.relations) + l.relation-index)
