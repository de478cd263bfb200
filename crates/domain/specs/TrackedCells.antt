-- What is said of cells in so many words: sets for some of them. Every other cell may hold any word.
use Rattle.std.specs.Prelude.{ℕ, ◌==◌, true, ◌&&◌, if◌then◌else◌, List, [], ◌∷◌, get_or}
use Rattle.wordset.specs.Words.{Words, nothing, all_words}

-- A tracked cell and its words.
pub record TrackedCell : Type 0 where
  pub address : ℕ
  pub set : Words

-- The words of a cell: those that all its entries allow, or all words if it has none.
abbrev pub tracked : ℕ → List TrackedCell → Words
tracked a [] v = all_words v
tracked a (c ∷ cs) v = (if c.address == a then c.set v else true) && tracked a cs v

-- The tracked cell at a place of a list.
abbrev pub cell_at : List TrackedCell → ℕ → TrackedCell
cell_at cells at = get_or cells at (record { address = 0; set = nothing })
