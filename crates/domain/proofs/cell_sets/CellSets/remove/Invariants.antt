use Rattle.std.proofs.Common.{◌≡◌, ◌++◌, take, drop, map}
use Rattle.domain.specs.CellsInCode.{cell_sets_of, freed}
use Rattle.domain.proofs.cell_sets.CellSets.remove.Given as goal

abbrev pub invariant-loop-at : goal.invariant-loop-at
invariant-loop-at g l = cell_sets_of l.self ≡ (map (freed l.cell) (take l.at (cell_sets_of l.fn.self)) ++ drop l.at (cell_sets_of l.fn.self))
