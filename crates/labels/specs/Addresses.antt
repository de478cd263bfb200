-- What a word of a declaration says in numbers.
use Rattle.std.specs.Prelude.{ℕ, ◌+◌, ◌-◌, ◌==◌, ◌&&◌, ◌||◌, not, nat_le, nat_lt, Bool, true, false, if◌then◌else◌, List, [], ◌∷◌, ◌++◌, drop, Option, Some, None, Result, Ok, Err}
use Rattle.std.specs.List.{before_first, position_or_len}
use Rattle.word12.specs.Words.{octal_text}
use Rattle.streams.specs.Text.{octal_word}
use Rattle.pal_text.specs.declared.names.Name.{Name}
use Rattle.pal_text.specs.Names.{name}
use Rattle.pal_acts.specs.Values.{known}
use Rattle.labels.specs.declared.fault.AddressFault.{AddressFault}
use Rattle.labels.specs.declared.fault.AddressFault.TheVariants.{Form, Symbol, Memory, Order}
use Rattle.labels.specs.declared.address.Cells.{Cells}
use Rattle.labels.specs.declared.address.Cells.TheVariants.{One, Range}

-- The byte is a capital letter.
abbrev pub is_capital : ℕ → Bool
is_capital c = nat_le 65 c && nat_le c 90

-- The byte is a digit.
abbrev pub is_digit : ℕ → Bool
is_digit c = nat_le 48 c && nat_le c 57

-- The byte is no part of a symbol or of a number.
abbrev pub ends_name : ℕ → Bool
ends_name c = not (is_capital c) && not (is_digit c)

-- The letters and digits at the front of a text.
abbrev pub name_of : List ℕ → List ℕ
name_of text = before_first ends_name text

-- What comes after them.
abbrev pub after_name : List ℕ → List ℕ
after_name text = drop (position_or_len ends_name text) text

-- An address and what comes after it, or what is wrong with it.
abbrev pub Reading : Type 0
Reading = Result (ℕ × List ℕ) AddressFault

-- The address that a symbol has as its value; a symbol without one has the flaw Symbol.
abbrev pub symbol_value : Option ℕ → Result ℕ AddressFault
symbol_value (Some value) = Ok value
symbol_value None = Err Symbol

-- The number that one to four octal digits spell; anything else is none.
abbrev pub number_value : Option ℕ → Result ℕ AddressFault
number_value (Some value) = Ok value
number_value None = Err Form

-- The value of the symbol with these bytes, by the symbols of a source.
abbrev pub value_of : List (Name × ℕ) → List ℕ → Result ℕ AddressFault
value_of own bytes = symbol_value (known [] own (record { letters = name bytes }))

-- The address so many cells above an address, or below it. It is not taken modulo 10000.
abbrev pub moved : ℕ → Bool → ℕ → Result ℕ AddressFault
moved at true count = if nat_lt at count then Err Memory else Ok (at - count)
moved at false count = if nat_lt (at + count) 4096 then Ok (at + count) else Err Memory

-- An address, where there is one, with what comes after it.
abbrev pub behind : Result ℕ AddressFault → List ℕ → Reading
behind (Ok at) rest = Ok (at, rest)
behind (Err flaw) rest = Err flaw

-- An address moved by a number.
abbrev pub moved_by : ℕ → Bool → Option ℕ → List ℕ → Reading
moved_by at below None rest = Err Form
moved_by at below (Some count) rest = behind (moved at below count) rest

-- An address moved by the number at the front of a text, and what stands behind the number.
abbrev pub offset : ℕ → Bool → List ℕ → Reading
offset at below number = moved_by at below (octal_word (name_of number)) (after_name number)

-- The byte is `+` or `-`.
abbrev pub is_sign : ℕ → Bool
is_sign c = c == 43 || c == 45

-- The text begins with a digit.
abbrev pub begins_number : List ℕ → Bool
begins_number [] = false
begins_number (digit ∷ more) = is_digit digit

-- A symbol's address, moved where a sign and a digit follow it.
abbrev pub with_offset : ℕ → List ℕ → Reading
with_offset at [] = Ok (at, [])
with_offset at (sign ∷ number) =
    if is_sign sign && begins_number number then offset at (sign == 45) number else Ok (at, sign ∷ number)

-- A symbol's address, where it has one, with what follows the symbol.
abbrev pub symbol_then : Result ℕ AddressFault → List ℕ → Reading
symbol_then (Ok at) rest = with_offset at rest
symbol_then (Err flaw) rest = Err flaw

-- The address of these letters and digits, with what follows them: that of a symbol, which a number may move, or a number.
abbrev pub address_by : List (Name × ℕ) → List ℕ → List ℕ → Reading
address_by own [] rest = Err Form
address_by own (first ∷ more) rest =
    if is_capital first then symbol_then (value_of own (first ∷ more)) rest
    else behind (number_value (octal_word (first ∷ more))) rest

-- The address at the front of a text, and what comes after it. It is read as far as it goes: a `-` before a digit belongs
-- to the symbol before it.
abbrev pub address_of : List (Name × ℕ) → List ℕ → Reading
address_of own text = address_by own (name_of text) (after_name text)

-- The cells from one address to the next one, behind which nothing stands.
abbrev pub span : ℕ → Reading → Result Cells AddressFault
span low (Err flaw) = Err flaw
span low (Ok (high, [])) = if nat_le low high then Ok (Range low high) else Err Order
span low (Ok (high, other ∷ more)) = Err Form

-- The cells of an address, or with a dash and another address those from one to the other.
abbrev pub cells_from : List (Name × ℕ) → Reading → Result Cells AddressFault
cells_from own (Err flaw) = Err flaw
cells_from own (Ok (low, [])) = Ok (One low)
cells_from own (Ok (low, dash ∷ rest)) = if dash == 45 then span low (address_of own rest) else Err Form

-- The cells of a word: an address or a range.
abbrev pub cells_of : List (Name × ℕ) → List ℕ → Result Cells AddressFault
cells_of own word = cells_from own (address_of own word)

-- Cells as a declaration spells them in numbers.
abbrev pub cells_text : Cells → List ℕ
cells_text (One at) = octal_text at
cells_text (Range low high) = octal_text low ++ 45 ∷ octal_text high
