-- The tokens of a part: its runs of characters, and then these without the spaces that do not count. Lists of bytes and of
-- tokens have the newest first here, except for `all_tokens`.
use Rattle.std.specs.Prelude.{ℕ, ◌+◌, Bool, true, false, ◌||◌, ◌&&◌, if◌then◌else◌, List, [], ◌∷◌, length, reverse, Option, Some, None, nat_eq, nat_le}
use Rattle.std.specs.Option.{option_map_or}
use Rattle.pal_text.specs.declared.tokens.TokenKind.{TokenKind}
use Rattle.pal_text.specs.declared.tokens.TokenKind.TheVariants.{Symbol, Number, Mixed, Here, Space, Comma, Equals, Plus, Minus, Star, End, Dollar, Other}
use Rattle.pal_text.specs.declared.tokens.Token.{Token}
use Rattle.pal_text.specs.Characters.{char, line, in_comment, meaning_after, after}

-- The code is that of a capital letter, A to Z; small letters are no letters here.
abbrev pub is_letter : ℕ → Bool
is_letter c = nat_le (char "A") c && nat_le c (char "Z")

-- The code is that of a decimal digit, 0 to 9: 8 and 9 count as digits too.
abbrev pub is_digit : ℕ → Bool
is_digit c = nat_le (char "0") c && nat_le c (char "9")

-- What a character begins, by its code.
abbrev pub kind_of : ℕ → TokenKind
kind_of c =
    if is_letter c then Symbol else
    if is_digit c then Number else
    if nat_eq c (char ".") then Here else
    if nat_eq c (char " ") then Space else
    if nat_eq c (char ",") then Comma else
    if nat_eq c (char "=") then Equals else
    if nat_eq c (char "+") then Plus else
    if nat_eq c (char "-") then Minus else
    if nat_eq c (char "*") then Star else
    if nat_eq c (char ";") then End else
    if nat_eq c (char "$") then Dollar else Other

-- A token of this kind is a run of spaces; a tab is read as a space.
abbrev pub is_space : TokenKind → Bool
is_space Space = true
is_space _ = false

-- Letters and digits that stand together are one token, and so are spaces. Here the kind of a token becomes that of the
-- token with one more character, where the character goes onto it.
abbrev pub longer : TokenKind → TokenKind → Option TokenKind
longer Symbol Symbol = Some Symbol
longer Symbol Number = Some Symbol
longer Number Number = Some Number
longer Number Symbol = Some Mixed
longer Mixed Symbol = Some Mixed
longer Mixed Number = Some Mixed
longer Space Space = Some Space
longer _ _ = None

-- A token of one byte at a place.
abbrev pub token : TokenKind → ℕ → ℕ → Token
token k n at = record { kind = k; line = n; start = at; end = at + 1 }

-- Runs with one more character: it goes onto the last one, or stands after it.
abbrev pub with_next : Token → List Token → List Token
with_next next [] = next ∷ []
with_next next (last ∷ ts) = option_map_or (λ k. record last { kind = k; end = next.end } ∷ ts) (longer last.kind next.kind) (next ∷ last ∷ ts)

-- The runs of these bytes, each as long as its characters stand together: a line's end ends a statement, and a comment
-- brings nothing.
abbrev pub runs : List ℕ → List Token
runs [] = []
runs (b ∷ before) =
    let here : TokenKind → List Token = λ k. with_next (token k (line before) (length before)) (runs before) in
    after (runs before) (here End) (λ c. if in_comment before || nat_eq c (char "/") then runs before else here (kind_of c)) (meaning_after before b)

-- A token of this kind is a plus or a minus sign.
abbrev pub is_sign : TokenKind → Bool
is_sign Plus = true
is_sign Minus = true
is_sign _ = false

-- The end of a line or of the part, a semicolon and a dollar sign: these end a statement.
abbrev pub is_end : TokenKind → Bool
is_end End = true
is_end Dollar = true
is_end _ = false

-- Spaces beside these do not count: , = + - and the ends of a statement.
abbrev pub absorbs : TokenKind → Bool
absorbs Comma = true
absorbs Equals = true
absorbs k = is_sign k || is_end k

-- A space after these tokens, the newest first, does not count: it follows one beside which spaces do not, or it stands
-- at the front of the part.
abbrev pub absorbs_after : List Token → Bool
absorbs_after [] = true
absorbs_after (t ∷ ts) = absorbs t.kind

-- Runs without the spaces that do not count; the first argument says whether what follows them is one of these.
abbrev pub counted : Bool → List Token → List Token
counted followed [] = []
counted followed (t ∷ ts) = if is_space t.kind && (followed || absorbs_after ts) then counted false ts else t ∷ counted (absorbs t.kind) ts

-- The tokens of these bytes.
abbrev pub tokens : List ℕ → List Token
tokens before = counted false (runs before)

-- The end of the part, which ends a statement too.
abbrev pub end_token : List ℕ → Token
end_token before = record { kind = End; line = line before; start = length before; end = length before }

-- The tokens of a part, whose bytes and tokens are in order, up to its end.
abbrev pub all_tokens : List ℕ → List Token
all_tokens source = reverse (counted false (end_token (reverse source) ∷ runs (reverse source)))
