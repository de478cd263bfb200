use Rattle.std.proofs.Common.{◌≡◌, ℕ, ◌<◌, false}
use Rattle.domain.specs.TrackedCells.{tracked, cell_at}
use Rattle.domain.specs.Adding.{lacks_all}
use Rattle.domain.specs.CellsInCode.{cell_sets_of}
use Rattle.domain.proofs.sum_fact.SumFact.has_empty_cell.Given as goal

abbrev pub invariant-loop-entry : goal.invariant-loop-entry
invariant-loop-entry g l = (k : ℕ) → k < l.entry-index → lacks_all (tracked (cell_at (cell_sets_of l.self.cells) k).address (cell_sets_of l.self.cells)) ≡ false
