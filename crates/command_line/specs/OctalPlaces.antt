-- The cells and the places that words of octal digits name.
use Rattle.std.specs.Prelude.{ℕ, ◌≡◌, ◌+◌, ◌==◌, List, Option, None, Some, drop, if◌then◌else◌, nat_le, option_map, take}
use Rattle.std.specs.List.{position}
use Rattle.streams.specs.Text.{octal_word}
use Rattle.wordset.specs.Lanes.{words}
use Rattle.wordset.specs.Words.{Words, between, one}

-- The cells from one address to another, which is not below it.
abbrev pub cells_between : Option ℕ → Option ℕ → Option Words
cells_between None high = None
cells_between (Some low) None = None
cells_between (Some low) (Some high) = if nat_le low high then Some (between low high) else None

-- The cells of a word with a dash at this place, or without a dash.
abbrev pub cells_around : Option ℕ → List ℕ → Option Words
cells_around None word = option_map one (octal_word word)
cells_around (Some dash) word = cells_between (octal_word (take dash word)) (octal_word (drop (dash + 1) word))

-- The cells of a word of octal digits: that of an address, or those from one address to another.
abbrev pub cells_of_word : List ℕ → Option Words
cells_of_word word = cells_around (position (λ c. c == 45) word) word

-- A word of octal digits names these cells.
abbrev pub NamesOctalCells : List ℕ → List ℕ → Type 0
NamesOctalCells word set = cells_of_word word ≡ Some (words set)

-- A word of octal digits names this address.
abbrev pub NamesOctalPlace : List ℕ → ℕ → Type 0
NamesOctalPlace word place = octal_word word ≡ Some place

-- A word is neither an address in octal digits nor two of them with a dash between them, the first of which is not above the second.
abbrev pub NamesNoOctalCells : List ℕ → Type 0
NamesNoOctalCells word = cells_of_word word ≡ None

-- A word is no address in octal digits.
abbrev pub NamesNoOctalPlace : List ℕ → Type 0
NamesNoOctalPlace word = octal_word word ≡ None
