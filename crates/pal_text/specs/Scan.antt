-- How the tokens of a statement are read from its bytes. Lists of bytes and of tokens have the newest first here, except
-- for what stands in a source or among a statement's own tokens.
use Rattle.std.specs.Prelude.{◌≡◌, ℕ, ◌+◌, ◌≤◌, ◌<◌, Bool, true, false, ◌||◌, if◌then◌else◌, List, [], ◌∷◌, ◌++◌, Option, Some, None, length, reverse, take, get_or, nat_eq}
use Rattle.std.specs.List.{AllByRecursion}
use Rattle.pal_text.specs.declared.tokens.TokenKind.{TokenKind}
use Rattle.pal_text.specs.declared.tokens.TokenKind.TheVariants as kind
use Rattle.pal_text.specs.declared.tokens.Token.{Token}
use Rattle.pal_text.specs.declared.scan.CodeEffect.{CodeEffect}
use Rattle.pal_text.specs.declared.scan.CodeEffect.TheVariants.{Nothing, Feed, End, Comment, One}
use Rattle.pal_text.specs.declared.scan.Place.{Place}
use Rattle.pal_text.specs.declared.scan.Run.{Run}
use Rattle.pal_text.specs.declared.statement.PartEnd.{PartEnd}
use Rattle.pal_text.specs.declared.reader.ReaderState.{ReaderState}
use Rattle.pal_text.specs.declared.reader.ReaderState.TheVariants.{Begins, Ended}
use Rattle.pal_text.specs.Characters.{char, code, is_ignored, returned, in_comment, line}
use Rattle.pal_text.specs.Tokens.{is_space, kind_of, token, is_end}
use Rattle.pal_text.specs.Adding.{added, tokens}

-- Whether a line feed would follow a carriage return after one more byte, by whether it would before that: `returned`
-- in one step.
abbrev pub returned_by : Bool → ℕ → Bool
returned_by before b = if nat_eq (code b) (char "\r") then true else if is_ignored (code b) || nat_eq (code b) (char "\n") then before else false

abbrev pub of_kind : TokenKind → CodeEffect
of_kind k = if is_end k then End else One k

-- What a code brings to a statement outside a comment.
abbrev pub brings : ℕ → CodeEffect
brings c =
    if is_ignored c then Nothing else
    if nat_eq c (char "\r") then End else
    if nat_eq c (char "\n") then Feed else
    if nat_eq c (char "\t") then One kind.Space else
    if nat_eq c (char "/") then Comment else of_kind (kind_of c)

-- A carriage return or a line feed.
abbrev pub is_line_code : ℕ → Bool
is_line_code c = nat_eq c (char "\r") || nat_eq c (char "\n")

-- The kind of the token that a byte brings that ends a statement.
abbrev pub mark_kind : ℕ → TokenKind
mark_kind c = if is_line_code c then kind.End else kind_of c

-- The line after such a byte.
abbrev pub line_past : ℕ → ℕ → ℕ
line_past n c = if is_line_code c then n + 1 else n

-- A space at the end of a statement does not count.
abbrev pub trimmed : List Token → List Token
trimmed [] = []
trimmed (t ∷ ts) = if is_space t.kind then ts else t ∷ ts

-- The token that ends a statement at a place: that of the byte there, or the end of the part.
abbrev pub mark : List ℕ → ℕ → ℕ → Token
mark source n at = if nat_eq at (length source) then record { kind = kind.End; line = n; start = at; end = at } else token (mark_kind (code (get_or source at 0))) n at

-- Where the next statement begins, after one that ends by the byte at a place.
abbrev pub next_place : List ℕ → ℕ → ℕ → Place
next_place source n at = record { at = at + 1; line = line_past n (code (get_or source at 0)); returned = nat_eq (code (get_or source at 0)) (char "\r") }

-- The bytes before a place, the newest first.
abbrev pub front : List ℕ → ℕ → List ℕ
front source at = reverse (take at source)

-- A byte after these ends a statement.
pub record Closes (before : List ℕ) (b : ℕ) : Type 0 where
  pub tokens_are : tokens (b ∷ before) ≡ added (token (mark_kind (code b)) (line before) (length before)) (tokens before)
  pub is_mark : is_end (mark_kind (code b)) ≡ true
  pub line_is : line (b ∷ before) ≡ line_past (line before) (code b)
  pub returned_is : returned (b ∷ before) ≡ nat_eq (code b) (char "\r")
  pub comment_is : in_comment (b ∷ before) ≡ false

-- The byte at a place ends a statement, where there is one.
pub record IsStop (source : List ℕ) (stop : ℕ) : Type 0 where
  pub inside : stop ≤ length source
  pub closes : stop < length source → Closes (front source stop) (get_or source stop 0)

-- Between two places no token begins or grows and no line ends.
pub record IsQuiet (source : List ℕ) (from to : ℕ) : Type 0 where
  pub tokens_are : tokens (front source to) ≡ tokens (front source from)
  pub line_is : line (front source to) ≡ line (front source from)

-- A place where a token may begin.
pub record IsOutside (source : List ℕ) (at : ℕ) : Type 0 where
  pub inside : at ≤ length source
  pub comment_is : in_comment (front source at) ≡ false
  pub returned_is : returned (front source at) ≡ false

-- These tokens, the newest first, end with the end of a statement, if there are any.
abbrev pub IsCut : List Token → Type 0
IsCut [] = Unit {0}
IsCut (t ∷ ts) = is_end t.kind ≡ true

-- A token that does not end a statement.
abbrev pub IsOpen : Token → Type 0
IsOpen t = is_end t.kind ≡ false

-- A statement begins at this place.
pub record IsPlaceIn (source : List ℕ) (place : Place) : Type 0 where
  pub inside : place.at ≤ length source
  pub line_is : place.line ≡ line (front source place.at)
  pub returned_is : place.returned ≡ returned (front source place.at)
  pub comment_is : in_comment (front source place.at) ≡ false
  pub cut : IsCut (tokens (front source place.at))

-- Where a reader stands after a statement by which the part ends so, if it does; else the next one begins there.
abbrev pub stands_by : Option PartEnd → Place → ReaderState
stands_by (Some c) next = Ended c
stands_by None next = Begins next

-- If the part has not ended, so many tokens stand before the next statement.
abbrev pub StandsAt : List ℕ → ℕ → ReaderState → Type 0
StandsAt source count (Begins place) = IsPlaceIn source place × (count ≡ length (tokens (front source place.at)))
StandsAt source count (Ended c) = Unit {0}

-- These are the tokens from the front of a statement up to a place.
pub record IsOwn (source : List ℕ) (place : Place) (at : ℕ) (own : List Token) : Type 0 where
  pub tokens_are : tokens (front source at) ≡ reverse own ++ tokens (front source place.at)
  pub line_is : line (front source at) ≡ place.line
  pub ends_none : AllByRecursion IsOpen own

-- A letter or a digit may go onto such a token.
abbrev pub is_word : TokenKind → Bool
is_word kind.Symbol = true
is_word kind.Number = true
is_word kind.Mixed = true
is_word _ = false

abbrev pub spanned : TokenKind → ℕ → ℕ → ℕ → Token
spanned k n start end = record { kind = k; line = n; start = start; end = end }

-- A token of letters and digits went on from a place.
pub record IsRun (source : List ℕ) (k : TokenKind) (end from : ℕ) (run : Run) : Type 0 where
  pub outside : IsOutside source run.at
  pub forward : from ≤ run.at
  pub word : is_word run.kind ≡ true
  pub line_is : line (front source run.at) ≡ line (front source from)
  pub tokens_are : (n start : ℕ) (ts : List Token) → tokens (front source from) ≡ spanned k n start end ∷ ts → tokens (front source run.at) ≡ spanned run.kind n start run.end ∷ ts

-- The last token went on from a place, if it is one of letters and digits.
pub record IsOnward (source : List ℕ) (from to : ℕ) (own grown : List Token) : Type 0 where
  pub outside : IsOutside source to
  pub forward : from ≤ to
  pub line_is : line (front source to) ≡ line (front source from)
  pub tokens_are : (before : List Token) → tokens (front source from) ≡ reverse own ++ before → tokens (front source to) ≡ reverse grown ++ before
  pub ends_none : AllByRecursion IsOpen own → AllByRecursion IsOpen grown
