-- The names that facts speak of, what they stand for, and the words of cells that facts need not tell.
use Rattle.std.specs.Prelude.{◌≡◌, ℕ, ◌==◌, Bool, true, false, not, ◌&&◌, if◌then◌else◌, Option, Some, None, nat_lt}
use Rattle.wordset.specs.Words.{Words, all_words, one}
use Rattle.processor.specs.Cells.{Cells}
use Rattle.declaration.specs.Declaration.{Routine, Declaration}

-- What a fact's sets and relations speak of: the accumulator or a cell.
pub data Location : Type 0 where
  Ac : Location
  Cell : ℕ → Location

-- The two names are one.
abbrev pub same : Location → Location → Bool
same Ac Ac = true
same Ac (Cell b) = false
same (Cell a) Ac = false
same (Cell a) (Cell b) = a == b

-- What the names stand for.
abbrev pub Values : Type 0
Values = Location → ℕ

-- In a fact a variable stands for its word, and any other cell for the word that it held at the start.
abbrev pub values : Declaration → Cells → ℕ → Cells → Values
values d start ac memory Ac = ac
values d start ac memory (Cell a) = if d.variable a then memory a else start a

-- The cells that are neither variables nor entries hold their start words.
abbrev pub KeepsRest : Declaration → Cells → Cells → Type 0
KeepsRest d start memory = (a : ℕ) → d.variable a ≡ false → d.entry a ≡ false → memory a ≡ start a

-- The routine's entry is this cell.
abbrev pub is_routine : Routine → ℕ → Bool
is_routine None a = false
is_routine (Some e) a = a == e

-- The tape's word, or all words if the tape has none.
abbrev pub tape_word : Option ℕ → Words
tape_word None = all_words
tape_word (Some w) = one w

-- The set has this cell. What a set says of numbers past 7777 is nothing.
abbrev pub has_cell : Words → Words
has_cell cells a = nat_lt a 4096 && cells a

-- A cell that is not written is outside the written set; the accumulator never is.
abbrev pub is_outside : Words → Location → Bool
is_outside written Ac = false
is_outside written (Cell a) = not (has_cell written a)
