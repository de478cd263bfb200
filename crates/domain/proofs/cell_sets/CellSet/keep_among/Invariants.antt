use Rattle.std.proofs.Common.{◌≡◌, ℕ, drop, map}
use Rattle.std.specs.Prelude.{◌&&◌}
use Rattle.wordset.specs.Lanes.{words}
use Rattle.domain.specs.TrackedCells.{tracked}
use Rattle.domain.specs.CellsInCode.{cell_set_of}
use Rattle.domain.proofs.cell_sets.CellSet.keep_among.Given as goal

abbrev pub invariant-loop-entry : goal.invariant-loop-entry
invariant-loop-entry l = (v : ℕ) → (words l.place v && tracked l.cell (map cell_set_of (drop l.entry-index l.entries)) v) ≡ (words l.fn.place v && tracked l.cell (map cell_set_of l.entries) v)
