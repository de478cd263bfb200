-- Lines of a declaration beside a statement of a source, which may leave out its address.
use Rattle.std.specs.Prelude.{ℕ, ◌&&◌, ◌||◌, nat_lt, Bool, false, if◌then◌else◌, List, [], ◌∷◌, ◌++◌, length, codes, Option, Some, None}
use Rattle.std.specs.List.{find, list_all, list_any}
use Rattle.std.specs.Option.{option_map}
use Rattle.std.specs.Str.{bytes_eq}
use Rattle.word12.specs.Words.{octal_text}
use Rattle.streams.specs.Text.{text_lines, words_of}
use Rattle.declaration.specs.Lines.{is_dash, is_subject}
use Rattle.pal_acts.specs.declared.act.PlacedWord.{PlacedWord}
use Rattle.pal_acts.specs.declared.act.SourcePlace.{SourcePlace}
use Rattle.pal_asm.specs.Listings.{is_at}
use Rattle.labels.specs.Addresses.{is_digit}
use Rattle.labels.specs.Lines.{comment, said, spaced}

-- The word is an offset, and no entry: one digit or two.
abbrev pub is_offset : List ℕ → Bool
is_offset word = nat_lt (length word) 3 && list_all is_digit word

-- The byte is a digit or a dash.
abbrev pub is_of_range : ℕ → Bool
is_of_range c = is_digit c || is_dash c

-- The word is one offset, or a range of them: digits, a dash and digits.
abbrev pub are_offsets : List ℕ → Bool
are_offsets word = is_offset word || (list_any is_dash word && list_all is_of_range word)

-- Behind the name of a line the next word, or the end, stands where an address is to be: behind `holds` the name of a subject;
-- behind `returns` that, or an offset; behind `skips` offsets; and behind `moves` and `abandon` nothing.
abbrev pub lacks_by : List ℕ → Option (List ℕ) → Bool
lacks_by name None = bytes_eq name (codes "moves") || bytes_eq name (codes "abandon")
lacks_by name (Some word) =
    if bytes_eq name (codes "holds") then is_subject word
    else (if bytes_eq name (codes "returns") then is_subject word || is_offset word
    else bytes_eq name (codes "skips") && are_offsets word)

-- The first of some words, if there is one.
abbrev pub first_of : List (List ℕ) → Option (List ℕ)
first_of [] = None
first_of (word ∷ words) = Some word

-- A line with these words leaves out its address.
abbrev pub lacks_address : List (List ℕ) → Bool
lacks_address [] = false
lacks_address (name ∷ words) = lacks_by name (first_of words)

-- Words, each after a space.
abbrev pub spaced_words : List (List ℕ) → List ℕ
spaced_words [] = []
spaced_words (word ∷ words) = 32 ∷ word ++ spaced_words words

-- The line with these words and this comment, and with an address behind its name.
abbrev pub with_address : ℕ → List (List ℕ) → List ℕ → List ℕ
with_address at [] comment = spaced comment
with_address at (name ∷ words) comment = name ++ 32 ∷ octal_text at ++ spaced_words words ++ spaced comment

-- A line beside a statement with this address, if there is a statement: where it leaves out its address it has this one.
abbrev pub located : Option ℕ → List ℕ → List ℕ
located None line = line
located (Some at) line =
    if lacks_address (words_of (said line)) then with_address at (words_of (said line)) (comment line) else line

-- The address of the first of these words that stands at a place of the source, if there is one.
abbrev pub address_on : List PlacedWord → SourcePlace → Option ℕ
address_on words place = option_map (λ w. w.at) (find (is_at place) words)

-- A line of the text leaves out its address.
abbrev pub lacks_some : List ℕ → Bool
lacks_some text = list_any (λ line. lacks_address (words_of line)) (text_lines text)
