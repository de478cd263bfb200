use Rattle.std.proofs.Common.{◌≡◌, ℕ, true, drop, map}
use Rattle.domain.specs.TrackedCells.{tracked}
use Rattle.domain.specs.CellsInCode.{cell_set_of}
use Rattle.facts.proofs.known_fact.shows_within.Given as goal

abbrev pub invariant-loop-entry : goal.invariant-loop-entry
invariant-loop-entry l = (v : ℕ) → tracked l.cell (map cell_set_of l.cells) v ≡ true → tracked l.cell (map cell_set_of (drop l.entry-index l.cells)) v ≡ true
