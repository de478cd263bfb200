-- The lines of a text, the words of a line, and the numbers that words spell.
use Rattle.std.specs.Prelude.{ℕ, Bool, not, ◌&&◌, ◌||◌, ◌==◌, nat_le, nat_lt, if◌then◌else◌, List, length, map, filter, Option, Some, None}
use Rattle.std.specs.List.{list_all, before_first, slice_split}
use Rattle.std.specs.Char.{is_ascii_digit}
use Rattle.std.specs.Result.{result_ok}
use Rattle.std.specs.Str.Lines.{lines}
use Rattle.std.specs.Str.Parse.{digits_value}
use Rattle.word12.specs.Octal.{octal_reading, octal_value, is_octal_digit}

-- `/`, with which a comment begins
abbrev pub is_slash : ℕ → Bool
is_slash c = c == 47

-- a space or a tab
abbrev pub is_blank : ℕ → Bool
is_blank c = c == 32 || c == 9

-- anything else
abbrev pub is_other : ℕ → Bool
is_other c = not (is_blank c)

-- The lines of a text. Each ends before a line feed, or before a carriage return and a line feed. The last line may
-- lack its line feed; a carriage return at its end is then part of it. Whatever follows a `/` is a comment, and neither
-- belongs to the line.
abbrev pub text_lines : List ℕ → List (List ℕ)
text_lines text = map (before_first is_slash) (lines text)

-- The words of a line: the pieces between spaces and tabs, without empty ones.
abbrev pub words_of : List ℕ → List (List ℕ)
words_of line = filter (λ piece. nat_lt 0 (length piece)) (slice_split is_blank line)

-- The machine word that one to four octal digits spell.
abbrev pub octal_word : List ℕ → Option ℕ
octal_word digits = if nat_le (length digits) 4 then result_ok (octal_reading digits) else None

-- The byte that one to three octal digits up to 377 spell.
abbrev pub octal_byte : List ℕ → Option ℕ
octal_byte digits =
    if nat_le (length digits) 3 && (nat_lt 0 (length digits) && (list_all is_octal_digit digits && nat_lt (octal_value digits) 256))
    then Some (octal_value digits) else None

-- The number between two limits that decimal digits spell, without a sign; leading zeros are accepted.
abbrev pub decimal_between : ℕ → ℕ → List ℕ → Option ℕ
decimal_between least most digits =
    if nat_lt 0 (length digits) && (list_all is_ascii_digit digits && (nat_le least (digits_value 10 digits) && nat_le (digits_value 10 digits) most))
    then Some (digits_value 10 digits) else None
