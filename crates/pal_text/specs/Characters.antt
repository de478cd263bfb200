-- The characters and lines of a part. A list of bytes has the newest first here: each byte is judged by what comes before it.
use Prim.Native.String.{String}
use Rattle.std.specs.Prelude.{ℕ, ◌+◌, ◌%◌, Bool, true, false, ◌||◌, not, if◌then◌else◌, List, [], ◌∷◌, nat_eq, filter, map, codes, get_or}
use Rattle.pal_text.specs.declared.characters.Meaning.{Meaning}
use Rattle.pal_text.specs.declared.characters.Meaning.TheVariants.{Ignored, LineEnd, Character}

-- The code of a character. "\t" is a tab, "\n" a line feed and "\r" a carriage return.
abbrev pub char : String → ℕ
char s = get_or (codes s) 0 0

-- A byte without channel 8.
abbrev pub code : ℕ → ℕ
code b = b % 0o200

-- Null, form feed and rubout, which have no sign, are ignored wherever they stand.
abbrev pub is_ignored : ℕ → Bool
is_ignored c = nat_eq c 0 || nat_eq c 0o14 || nat_eq c 0o177

-- Whether only ignored bytes and line feeds stand between here and a carriage return: a carriage return makes it so, ignored
-- bytes and line feeds leave it, any other ends it.
abbrev pub returned : List ℕ → Bool
returned [] = false
returned (b ∷ before) = if nat_eq (code b) (char "\r") then true else if is_ignored (code b) || nat_eq (code b) (char "\n") then returned before else false

-- What a byte is: a carriage return ends a line, a line feed too unless it follows a return, and a tab is a space.
abbrev pub meaning : Bool → ℕ → Meaning
meaning returned b =
    if is_ignored (code b) then Ignored else
    if nat_eq (code b) (char "\r") then LineEnd else
    if nat_eq (code b) (char "\n") then (if returned then Ignored else LineEnd) else
    if nat_eq (code b) (char "\t") then Character (char " ") else Character (code b)

-- What a byte means after these bytes, the newest first, by whether a carriage return stands before it with nothing
-- between them but ignored bytes and line feeds.
abbrev pub meaning_after : List ℕ → ℕ → Meaning
meaning_after before b = meaning (returned before) b

-- What holds after a byte, by its meaning: where it is ignored, where it ends a line, and where it is a character.
abbrev pub after : {X : Type 0} → X → X → (ℕ → X) → Meaning → X
after ignored line_end character Ignored = ignored
after ignored line_end character LineEnd = line_end
after ignored line_end character (Character c) = character c

-- A comment goes from a slash to the line's end.
abbrev pub in_comment : List ℕ → Bool
in_comment [] = false
in_comment (b ∷ before) = after (in_comment before) false (λ c. in_comment before || nat_eq c (char "/")) (meaning_after before b)

-- The number of the line that the next byte belongs to, counted from 1.
abbrev pub line : List ℕ → ℕ
line [] = 1
line (b ∷ before) = after (line before) (line before + 1) (λ c. line before) (meaning_after before b)

-- Within a line every line feed is an ignored one, so these codes are no characters there.
abbrev pub is_character : ℕ → Bool
is_character c = not (is_ignored c || nat_eq c (char "\n") || nat_eq c (char "\r"))

-- The characters of a token or of a line: its bytes in order, without channel 8 and without the ignored ones.
abbrev pub characters : List ℕ → List ℕ
characters bytes = filter is_character (map code bytes)
