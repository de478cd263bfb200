use Rattle.std.proofs.Common.{◌≡◌, ◌+◌, ◌++◌, drop, length, map}
use Rattle.wordset.specs.Lanes.{words}
use Rattle.domain.specs.CellsInCode.{cell_set_of, cell_sets_of}
use Rattle.domain.specs.Taken.{changed, changed_among}
use Rattle.domain.proofs.taking.push_all_changed.Given as goal

abbrev pub invariant-loop-entry : goal.invariant-loop-entry
invariant-loop-entry g l =
    ((cell_sets_of l.cells ++ map (changed_among (words l.among) (changed l.change) (cell_sets_of l.others)) (map cell_set_of (drop l.entry-index l.entries)))
    ≡ (cell_sets_of l.fn.cells ++ map (changed_among (words l.among) (changed l.change) (cell_sets_of l.others)) (map cell_set_of l.entries)))
    × (length (cell_sets_of l.cells) ≡ length (cell_sets_of l.fn.cells) + l.entry-index)
