-- How names and lines of files are shown to people.
use Rattle.std.specs.Prelude.{ℕ, Bool, ◌&&◌, ◌==◌, not, if◌then◌else◌, List, map}
use Rattle.std.specs.Char.{is_control}
use Rattle.std.specs.Str.{chars, encode_utf8_all}

-- What is shown for a character: a question mark for a control character, of which a terminal might do something else than
-- show it, and otherwise the character itself. A tab is shown as it is.
abbrev pub visible_character : ℕ → ℕ
visible_character c = if is_control c && not (c == 9) then 63 else c

-- A text as it is shown: each of its characters by what is shown for it, in order.
abbrev pub visible_text : List ℕ → List ℕ
visible_text text = encode_utf8_all (map visible_character (chars text))
