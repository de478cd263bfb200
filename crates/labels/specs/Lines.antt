-- A declaration with the symbols of a source, in numbers.
use Rattle.std.specs.Prelude.{ℕ, ◌≡◌, ◌+◌, ◌-◌, ◌==◌, nat_lt, Bool, if◌then◌else◌, List, [], ◌∷◌, ◌++◌, length, drop, Option, Some, None, Result, Ok, Err}
use Rattle.std.specs.Borrow.{Bor}
use Rattle.std.specs.List.{before_first, list_any, position_or_len, slice_index, slice_split}
use Rattle.std.specs.Str.Lines.{strip_carriage_return}
use Rattle.streams.specs.Text.{is_slash, words_of}
use Rattle.pal_text.specs.declared.names.Name.{Name}
use Rattle.labels.specs.declared.fault.AddressFault.{AddressFault}
use Rattle.labels.specs.declared.fault.AddressFault.TheVariants.{Form, Symbol, Memory, Order}
use Rattle.labels.specs.declared.fault.PlaceFault.{PlaceFault}
use Rattle.labels.specs.declared.fault.PlaceFault.TheVariants.{BadLine, NoSymbol, PastMemory, Backwards, TooMany, NoMemory}
use Rattle.labels.specs.declared.address.Cells.{Cells}
use Rattle.labels.specs.Addresses.{is_capital, cells_of, cells_text}

-- A flaw as the fault of a line.
abbrev pub fault_at : ℕ → AddressFault → PlaceFault
fault_at n Form = BadLine n
fault_at n Symbol = NoSymbol n
fault_at n Memory = PastMemory n
fault_at n Order = Backwards n

-- A text in numbers, or its first fault.
abbrev pub Placed : Type 0
Placed = Result (List ℕ) PlaceFault

-- Cells as they are spelled, or what they flaw as the fault of a line.
abbrev pub spelled : ℕ → Result Cells AddressFault → Placed
spelled n (Ok cells) = Ok (cells_text cells)
spelled n (Err flaw) = Err (fault_at n flaw)

-- A word of the line of this number: with a capital letter it is an address or a range, and any other stays as it is.
abbrev pub placed_word : List (Name × ℕ) → ℕ → List ℕ → Placed
placed_word own n word = if list_any is_capital word then spelled n (cells_of own word) else Ok word

-- A first piece, with a byte before it, and what follows it; the first fault of both.
abbrev pub joined : ℕ → Placed → Placed → Placed
joined c (Ok first) (Ok rest) = Ok (c ∷ first ++ rest)
joined c (Ok first) (Err fault) = Err fault
joined c (Err fault) rest = Err fault

-- Words of a line, each after a space.
abbrev pub placed_words : List (Name × ℕ) → ℕ → List (List ℕ) → Placed
placed_words own n [] = Ok []
placed_words own n (word ∷ words) = joined 32 (placed_word own n word) (placed_words own n words)

-- A text behind another, or its fault.
abbrev pub prefixed : List ℕ → Placed → Placed
prefixed front (Ok text) = Ok (front ++ text)
prefixed front (Err fault) = Err fault

-- A text with another after it, or its fault.
abbrev pub followed : Placed → List ℕ → Placed
followed (Ok text) after = Ok (text ++ after)
followed (Err fault) after = Err fault

-- A comment after a space, if there is one.
abbrev pub spaced : List ℕ → List ℕ
spaced [] = []
spaced (c ∷ comment) = 32 ∷ c ∷ comment

-- A line by its words and its comment: the first word stays, and the others are in numbers.
abbrev pub placed_by : List (Name × ℕ) → ℕ → List (List ℕ) → List ℕ → Placed
placed_by own n [] comment = Ok (spaced comment)
placed_by own n (word ∷ words) comment = followed (prefixed word (placed_words own n words)) (spaced comment)

-- What a line says, before its comment.
abbrev pub said : List ℕ → List ℕ
said line = before_first is_slash line

-- The comment of a line, which begins with `/`.
abbrev pub comment : List ℕ → List ℕ
comment line = drop (position_or_len is_slash line) line

-- The carriage return at the end of a line, if there is one.
abbrev pub return_of : List ℕ → List ℕ
return_of line = if slice_index line (length line - 1) == 13 then 13 ∷ [] else []

-- A line by what comes before the carriage return at its end, which stays.
abbrev pub placed_body : List (Name × ℕ) → ℕ → List ℕ → List ℕ → Placed
placed_body own n body after = followed (placed_by own n (words_of (said body)) (comment body)) after

-- The line of this number in numbers. Without a capital letter before its comment it stays as it is, byte for byte. Of
-- another one the words stand behind one space each, and a carriage return at its end stays.
abbrev pub placed_line : List (Name × ℕ) → ℕ → List ℕ → Placed
placed_line own n line =
    if list_any is_capital (said line)
    then placed_body own n (strip_carriage_return line) (return_of line)
    else Ok line

-- The byte is a line feed.
abbrev pub is_feed : ℕ → Bool
is_feed c = c == 10

-- The lines of the text after a line feed, if there is one.
abbrev pub lines_behind : Option (Bor (List ℕ)) → List (List ℕ)
lines_behind None = []
lines_behind (Some text) = slice_split is_feed text.now

-- How many bytes stand behind a line, its line feed among them.
abbrev pub length_behind : Option (Bor (List ℕ)) → ℕ
length_behind None = 0
length_behind (Some text) = 1 + length text.now

-- Lines from the one of this number on, each after a line feed.
abbrev pub placed_lines : List (Name × ℕ) → ℕ → List (List ℕ) → Placed
placed_lines own n [] = Ok []
placed_lines own n (line ∷ lines) = joined 10 (placed_line own n line) (placed_lines own (n + 1) lines)

-- A first line and those after it.
abbrev pub first_then : Placed → Placed → Placed
first_then (Ok first) rest = prefixed first rest
first_then (Err fault) rest = Err fault

-- All lines of a text.
abbrev pub placed_all : List (Name × ℕ) → List (List ℕ) → Placed
placed_all own [] = Ok []
placed_all own (line ∷ lines) = first_then (placed_line own 1 line) (placed_lines own 2 lines)

-- The declaration in numbers that a text with symbols means, line for line, or the fault of the first line that has one.
-- Before all a text is refused that has more bytes than a declaration may have.
abbrev pub placed_text : List (Name × ℕ) → List ℕ → Placed
placed_text own text =
    if nat_lt 16384 (length text) then Err TooMany else placed_all own (slice_split is_feed text)

-- Why a text is not in numbers: its fault, or that memory was refused.
abbrev pub IsPlaceFault : Placed → PlaceFault → Type 0
IsPlaceFault meant NoMemory = Unit {0}
IsPlaceFault meant fault = meant ≡ Err fault
