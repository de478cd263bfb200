use Rattle.std.proofs.Common.{◌≡◌, ℕ, ◌≤◌, drop, map}
use Rattle.wordset.specs.Words.{all_words}
use Rattle.domain.specs.TrackedCells.{tracked}
use Rattle.domain.specs.CellsInCode.{cell_set_of}
use Rattle.facts.proofs.fact_parts.look_at_cells.Given as goal

abbrev pub invariant-loop-entry : goal.invariant-loop-entry
invariant-loop-entry l = (a : ℕ) → 4096 ≤ a → tracked a (map cell_set_of (drop l.entry-index l.cells)) ≡ all_words → tracked a (map cell_set_of l.cells) ≡ all_words
