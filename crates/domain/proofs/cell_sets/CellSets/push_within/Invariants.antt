use Rattle.std.proofs.Common.{◌≡◌, ◌+◌, ◌≤◌, ◌++◌, drop, length, map}
use Rattle.wordset.specs.Lanes.{words}
use Rattle.domain.specs.CellsInCode.{cell_set_of, cell_sets_of, cells_within}
use Rattle.domain.proofs.cell_sets.CellSets.push_within.Given as goal

abbrev pub invariant-loop-entry : goal.invariant-loop-entry
invariant-loop-entry g l =
    ((cell_sets_of l.self ++ cells_within (words l.written) (map cell_set_of (drop l.entry-index l.others))) ≡ (cell_sets_of l.fn.self ++ cells_within (words l.written) (map cell_set_of l.others)))
    × (length (cell_sets_of l.self) ≤ length (cell_sets_of l.fn.self) + l.entry-index)
