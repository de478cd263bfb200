use Rattle.std.proofs.Common.{◌≡◌, ◌+◌, ◌≤◌, drop, length, map}
use Rattle.domain.specs.Facts.{OfSums}
use Rattle.domain.specs.Adding.{adding_all}
use Rattle.domain.specs.CellsInCode.{cell_sets_of}
use Rattle.domain.specs.RelationsInCode.{relations_of}
use Rattle.domain.specs.ChainsInCode.{chain_of}
use Rattle.domain.specs.FactInCode.{fact_in_code, all_parts_of_chains}
use Rattle.domain.proofs.sum_fact.SumFact.add_all_parts_of_chains.Given as goal

abbrev pub invariant-loop-chain : goal.invariant-loop-chain
invariant-loop-chain g l =
    (adding_all OfSums (all_parts_of_chains (fact_in_code l.fact) (map chain_of (drop l.chain-index l.chains))) (fact_in_code l.self)
    ≡ adding_all OfSums (all_parts_of_chains (fact_in_code l.fact) (map chain_of l.chains)) (fact_in_code l.fn.self))
    × (length (cell_sets_of l.self.cells) ≤ length (cell_sets_of l.fn.self.cells) + l.chain-index)
    × (length (relations_of l.self.relations) ≤ length (relations_of l.fn.self.relations) + l.chain-index)
