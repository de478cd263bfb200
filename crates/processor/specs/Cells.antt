-- The contents of a memory, as a map from addresses to words.
use Rattle.std.specs.Prelude.{ℕ, ◌<◌, ◌==◌, if◌then◌else◌, List, slice_index}

-- A memory is a map from words to words.
abbrev pub Cells : Type 0
Cells = ℕ → ℕ

-- The map of a list of cells.
abbrev pub cell_of : List ℕ → Cells
cell_of cells = λ a. slice_index cells a

-- The map with one cell replaced.
unfoldable pub updated : Cells → ℕ → ℕ → Cells
updated cell at value = λ a. (if a == at then value else cell a)

-- Each cell holds a word.
abbrev pub AreWords : Cells → Type 0
AreWords cell = (a : ℕ) → cell a < 4096
