-- What the words of a line of a certificate's text say.
use Rattle.std.specs.Prelude.{ℕ, ◌+◌, ◌-◌, ◌==◌, nat_lt, Bool, not, ◌&&◌, if◌then◌else◌, codes, List, [], length, take, drop, get_or}
use Rattle.std.specs.List.{list_any, slice_split}
use Rattle.std.specs.Str.{bytes_eq}
use Rattle.word12.specs.Octal.{octal_value}
use Rattle.wordset.specs.Words.{Words, between}
use Rattle.wordset.specs.Links.{links_of}
use Rattle.domain.specs.Locations.{Location, Ac, Cell}

-- The words of a line stand between its spaces.
abbrev pub words_in : List ℕ → List (List ℕ)
words_in line = slice_split (λ c. c == 32) line

-- The word of this number, counted from 0; an empty one where there are fewer.
abbrev pub word_at : ℕ → List (List ℕ) → List ℕ
word_at n words = get_or words n []

-- A run as it is spelled with numbers of so many digits: one number, or its first and its last one with a dash between them. The first
-- digits are those of the first number, and the last ones those of the last.
abbrev pub run_of : ℕ → List ℕ → Words
run_of count text = between (octal_value (take count text)) (octal_value (drop (length text - count) text))

-- The numbers below n of a set as it is spelled with numbers of so many digits: a dash where there are none, else its runs with commas
-- between them.
abbrev pub numbers_of : ℕ → ℕ → List ℕ → Words
numbers_of count n word a =
    nat_lt a n && (not (bytes_eq word (codes "-")) && list_any (λ text. run_of count text a) (slice_split (λ c. c == 44) word))

-- A set of words.
abbrev pub set_of : List ℕ → Words
set_of word a = numbers_of 4 4096 word a

-- The digit is among those of the word.
abbrev pub has_digit : List ℕ → ℕ → Bool
has_digit word d = list_any (λ c. c == 48 + d) word

-- The offsets of which the digits are in the word.
abbrev pub offsets_in : List ℕ → Words
offsets_in word o = nat_lt o 8 && has_digit word o

-- The links of which the digits are in the word.
abbrev pub links_in : List ℕ → Words
links_in word = links_of (record { clear = has_digit word 0; set = has_digit word 1 })

-- The accumulator, or the cell of an address.
abbrev pub name_of : List ℕ → Location
name_of word = if bytes_eq word (codes "AC") then Ac else Cell (octal_value word)
