-- Cells with their words as they're kept in code, and what they mean.
use Rattle.std.specs.Prelude.{◌≡◌, ℕ, ◌<◌, ◌==◌, not, if◌then◌else◌, List, length, map, take, filter}
use Rattle.wordset.specs.Words.{Words, all_words}
use Rattle.domain.specs.TrackedCells as said
use Rattle.domain.specs.TrackedCells.{tracked, cell_at}
use Rattle.domain.specs.Brief.{brief_words}
use Rattle.domain.specs.declared.cell_sets.CellSet.{CellSet}
use Rattle.domain.specs.declared.cell_sets.CellSets.{CellSets}

-- The cell that is meant, with its words.
abbrev pub cell_set_of : CellSet → said.TrackedCell
cell_set_of c = record { address = c.cell; set = brief_words c.set }

-- The cells that are meant: those in use.
abbrev pub cell_sets_of : {CAP : ℕ} → CellSets CAP → List said.TrackedCell
cell_sets_of cs = map cell_set_of (take cs.count cs.entries)

-- For each cell the words that all its entries allow, or all words if it has none.
abbrev pub words_in_cells : List said.TrackedCell → ℕ → Words
words_in_cells cells a = tracked a cells

-- The words of each cell, with others for one of them.
abbrev pub with_cell : ℕ → Words → (ℕ → Words) → ℕ → Words
with_cell cell set sets a = if a == cell then set else sets a

-- The entry, which allows all words if it is of the cell.
abbrev pub freed : ℕ → said.TrackedCell → said.TrackedCell
freed cell c = if c.address == cell then record { address = c.address; set = all_words } else c

-- The entries of cells that are not in a set.
abbrev pub cells_outside : Words → List said.TrackedCell → List said.TrackedCell
cells_outside written cells = filter (λ c. not (written c.address)) cells

-- The entries of cells that are in a set.
abbrev pub cells_within : Words → List said.TrackedCell → List said.TrackedCell
cells_within written cells = filter (λ c. written c.address) cells

-- The entry at this place is of the cell.
pub record IsCellAt (cell : ℕ) (cells : List said.TrackedCell) (at : ℕ) : Type 0 where
  pub inside : at < length cells
  pub same : (cell_at cells at).address ≡ cell
