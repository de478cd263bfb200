use Rattle.std.proofs.Common.{◌≡◌, ◌++◌}
use Rattle.wordset.specs.Lanes.{words}
use Rattle.processor.specs.Cells.{cell_of}
use Rattle.machine_commands.specs.Summary.{cells_below}
use Rattle.machine_commands.proofs.summary.push_cells.Given as goal

abbrev pub invariant-loop-index : goal.invariant-loop-index
invariant-loop-index g l = l.text.items ≡ l.initial.text.items ++ cells_below (words l.show) (cell_of l.memory) l.index
