-- What each line of a declaration says, as a function of its words.
use Rattle.std.specs.Prelude.{ℕ, ◌+◌, ◌==◌, ◌||◌, nat_le, Bool, if◌then◌else◌, codes, List, [], ◌∷◌, length, take, drop, Option, Some, None}
use Rattle.std.specs.List.{list_any, position, before_first, after_first, find}
use Rattle.std.specs.Option.{option_and_then, option_map, option_map_or, option_zip}
use Rattle.std.specs.Str.{bytes_eq}
use Rattle.instruct.specs.declared.Profile.{Profile}
use Rattle.instruct.specs.declared.Profile.TheVariants.{Pdp8I, Pdp8E}
use Rattle.wordset.specs.Words.{Words, nothing, one, between, union, difference, has_some}
use Rattle.streams.specs.Text.{words_of, octal_word}
use Rattle.declaration.specs.Declaration.{Assertion, PlaceAssertion, ReturnAssertion}
use Rattle.declaration.specs.declared.Subject.{Subject}
use Rattle.declaration.specs.declared.Subject.TheVariants.{Accumulator, Link, Mq, Cell}

-- A routine as a `sub` line declares it: its entry, the cells of its body, and the offsets by which it
-- may return.
pub record Subroutine : Type 0 where
  pub entry : ℕ
  pub body : Words
  pub offsets : Words

-- Further offsets of a routine as a `skips` line declares them: its entry, and the offsets.
pub record FurtherOffsets : Type 0 where
  pub entry : ℕ
  pub offsets : Words

-- What a line says: nothing, if it is empty; the start; cells of main's body; a routine; variable cells; stops; pauses;
-- the machine; cells that may be read; further offsets of a routine; entries in which their routines may store;
-- addresses for which calls may be abandoned; an assertion about addresses; an assertion about returns.
pub data Line : Type 0 where
  Nothing : Line
  Start : ℕ → Line
  Main : Words → Line
  Sub : Subroutine → Line
  Variables : Words → Line
  Stops : Words → Line
  Pauses : Words → Line
  Machine : Profile → Line
  Reads : Words → Line
  Skips : FurtherOffsets → Line
  Moves : Words → Line
  Abandon : Words → Line
  Holds : PlaceAssertion → Line
  Returns : ReturnAssertion → Line

-- The numbers that all these words spell together, where each word spells a set of numbers; none if one of them does not.
-- Without words it is the set without any number.
abbrev pub all_of : (List ℕ → Option Words) → List (List ℕ) → Option Words
all_of read [] = Some nothing
all_of read (word ∷ words) = option_map (λ it. union it.0 it.1) (option_zip (read word) (all_of read words))

-- The numbers that one or more words spell together; none if there is no word, or if one of them spells no set.
abbrev pub some_of : (List ℕ → Option Words) → List (List ℕ) → Option Words
some_of read [] = None
some_of read (word ∷ words) = all_of read (word ∷ words)

-- The byte is a dash, `-`.
abbrev pub is_dash : ℕ → Bool
is_dash c = c == 45

-- An address is one to four octal digits.
abbrev pub address_of : List ℕ → Option Words
address_of word = option_map one (octal_word word)

-- The cells from one address to another, which is not below it.
abbrev pub span : Option ℕ → Option ℕ → Option Words
span None high = None
span (Some low) None = None
span (Some low) (Some high) = if nat_le low high then Some (between low high) else None

-- The cells of a range that a word spells: one address or, if the word has a dash, those from the address before its
-- first dash to the address after it, both included. None if the second address is below the first, or if a part is
-- not an address.
abbrev pub range_of : List ℕ → Option Words
range_of word =
    option_map_or (λ n. span (octal_word (take n word)) (octal_word (drop (n + 1) word))) (position is_dash word) (address_of word)

-- An offset of a `sub` line is one octal digit.
abbrev pub offset_of : List ℕ → Option Words
offset_of word = if length word == 1 then address_of word else None

-- The word between a body and its offsets.
abbrev pub is_returns : List ℕ → Bool
is_returns word = bytes_eq word (codes "returns")

-- The ranges of a body, one or more, which end before the word `returns`.
abbrev pub body_read : List (List ℕ) → Option Words
body_read words = if list_any is_returns words then some_of range_of (before_first is_returns words) else None

-- The words after `sub`: an entry, the word `body`, ranges, the word `returns`, and offsets, of which there may be none.
abbrev pub sub_line : List (List ℕ) → Option Line
sub_line [] = None
sub_line (entry ∷ []) = None
sub_line (entry ∷ word ∷ rest) =
    if bytes_eq word (codes "body")
    then option_map (λ it. Sub (record { entry = it.0; body = it.1.0; offsets = it.1.1 }))
    (option_zip (octal_word entry) (option_zip (body_read rest) (all_of offset_of (after_first is_returns rest))))
    else None

-- The one word after `start`.
abbrev pub start_line : List (List ℕ) → Option Line
start_line [] = None
start_line (word ∷ []) = option_map Start (octal_word word)
start_line (word ∷ other ∷ others) = None

-- The one word after `profile`.
abbrev pub profile_line : List (List ℕ) → Option Line
profile_line [] = None
profile_line (word ∷ []) =
    if bytes_eq word (codes "8i") then Some (Machine Pdp8I)
    else (if bytes_eq word (codes "8e") then Some (Machine Pdp8E) else None)
profile_line (word ∷ other ∷ others) = None

-- All offsets, 0 to 77.
abbrev pub every_offset : Words
every_offset = between 0 63

-- The set, if each of its words is an offset; none otherwise.
abbrev pub if_offsets : Option Words → Option Words
if_offsets None = None
if_offsets (Some set) = if has_some (difference set every_offset) then None else Some set

-- The words after `skips`: an entry, and ranges of offsets.
abbrev pub skips_line : List (List ℕ) → Option Line
skips_line [] = None
skips_line (entry ∷ rest) =
    option_map (λ it. Skips (record { entry = it.0; offsets = it.1 }))
    (option_zip (octal_word entry) (if_offsets (some_of range_of rest)))

-- The word names the subject of an assertion.
abbrev pub is_subject : List ℕ → Bool
is_subject word =
    bytes_eq word (codes "ac") || bytes_eq word (codes "mq") || bytes_eq word (codes "link") || bytes_eq word (codes "cell")

-- The assertion about a subject, if its words are spelled correctly.
abbrev pub asserted : Subject → Option Words → Option Assertion
asserted subject None = None
asserted subject (Some words) = Some (record { subject = subject; words = words })

-- The one word after `link`: the digit of a bit, `0` or `1`.
abbrev pub link_of : List (List ℕ) → Option Words
link_of [] = None
link_of (word ∷ []) =
    if bytes_eq word (codes "0") then Some (one 0) else (if bytes_eq word (codes "1") then Some (one 1) else None)
link_of (word ∷ other ∷ others) = None

-- The words after `cell`: an address, and ranges of words.
abbrev pub cell_assertion : List (List ℕ) → Option Assertion
cell_assertion [] = None
cell_assertion (cell ∷ rest) = option_and_then (λ a. asserted (Cell a) (some_of range_of rest)) (octal_word cell)

-- An assertion, given the name of its subject and the words after it.
abbrev pub named_assertion : List ℕ → List (List ℕ) → Option Assertion
named_assertion name rest =
    if bytes_eq name (codes "ac") then asserted Accumulator (some_of range_of rest)
    else (if bytes_eq name (codes "mq") then asserted Mq (some_of range_of rest)
    else (if bytes_eq name (codes "link") then asserted Link (link_of rest)
    else (if bytes_eq name (codes "cell") then cell_assertion rest
    else None)))

-- The assertion that begins with the first word that names a subject.
abbrev pub assertion_in : List (List ℕ) → Option Assertion
assertion_in words =
    option_and_then (λ name. named_assertion name (after_first is_subject words)) (find is_subject words)

-- The words after `holds`: addresses, and an assertion.
abbrev pub holds_line : List (List ℕ) → Option Line
holds_line words =
    option_map (λ it. Holds (record { places = it.0; assertion = it.1 }))
    (option_zip (some_of address_of (before_first is_subject words)) (assertion_in words))

-- The offsets that these words spell, one each; all offsets if there is no word.
abbrev pub offsets_named : List (List ℕ) → Option Words
offsets_named [] = Some every_offset
offsets_named (word ∷ words) = if_offsets (all_of address_of (word ∷ words))

-- The words after `returns`: an entry, offsets, and an assertion.
abbrev pub returns_line : List (List ℕ) → Option Line
returns_line [] = None
returns_line (entry ∷ words) =
    option_map (λ it. Returns (record { entry = it.0; offsets = it.1.0; assertion = it.1.1 }))
    (option_zip (octal_word entry) (option_zip (offsets_named (before_first is_subject words)) (assertion_in words)))

-- A line about how routines return or about assertions, given its first word and the words after
-- it.
abbrev pub further_line : List ℕ → List (List ℕ) → Option Line
further_line name rest =
    if bytes_eq name (codes "skips") then skips_line rest
    else (if bytes_eq name (codes "moves") then option_map Moves (some_of address_of rest)
    else (if bytes_eq name (codes "abandon") then option_map Abandon (some_of address_of rest)
    else (if bytes_eq name (codes "holds") then holds_line rest
    else (if bytes_eq name (codes "returns") then returns_line rest
    else None))))

-- A line, given its words. `read` alone is a list of reads without cells. Any other line is bad.
abbrev pub line_by : List (List ℕ) → Option Line
line_by [] = Some Nothing
line_by (name ∷ rest) =
    if bytes_eq name (codes "start") then start_line rest
    else (if bytes_eq name (codes "main") then option_map Main (some_of range_of rest)
    else (if bytes_eq name (codes "sub") then sub_line rest
    else (if bytes_eq name (codes "var") then option_map Variables (some_of range_of rest)
    else (if bytes_eq name (codes "stop") then option_map Stops (some_of address_of rest)
    else (if bytes_eq name (codes "pause") then option_map Pauses (some_of address_of rest)
    else (if bytes_eq name (codes "profile") then profile_line rest
    else (if bytes_eq name (codes "read") then option_map Reads (all_of range_of rest)
    else further_line name rest)))))))

-- What a line of a text says, as a function of its words, which are separated by spaces and tabs;
-- none if the line is bad.
abbrev pub line_of : List ℕ → Option Line
line_of text = line_by (words_of text)
