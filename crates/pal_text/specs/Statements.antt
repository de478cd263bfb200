-- The statements of a part, by its tokens in order.
use Rattle.std.specs.Prelude.{◌≡◌, ℕ, ◌+◌, Bool, true, false, if◌then◌else◌, List, [], ◌∷◌, Option, Some, None, length, nat_eq, slice_range}
use Rattle.pal_text.specs.declared.tokens.TokenKind.{TokenKind}
use Rattle.pal_text.specs.declared.tokens.TokenKind.TheVariants.{Dollar}
use Rattle.pal_text.specs.declared.tokens.Token.{Token}
use Rattle.pal_text.specs.declared.grammar.Form.{Form}
use Rattle.pal_text.specs.declared.grammar.Form.TheVariants as form
use Rattle.pal_text.specs.declared.statement.Statement.{Statement}
use Rattle.pal_text.specs.declared.statement.Ending.{Ending}
use Rattle.pal_text.specs.declared.statement.Ending.TheVariants as ending
use Rattle.pal_text.specs.declared.statement.PartEnd.{PartEnd}
use Rattle.pal_text.specs.Tokens.{is_end}
use Rattle.pal_text.specs.Grammar.{Said, IsStatement}

-- A token of this kind is a dollar sign, which ends the part after its statement.
abbrev pub is_dollar : TokenKind → Bool
is_dollar Dollar = true
is_dollar _ = false

-- A piece of a part: the tokens from `first` up to the one before `last`, and the token at `last`, which ends it.
pub record Piece : Type 0 where
  pub first : ℕ
  pub last : ℕ
  pub mark : Token

-- The piece of the tokens from the place `first` up to the one before `last`, which this token at `last` ends.
abbrev pub piece : ℕ → ℕ → Token → Piece
piece first last mark = record { first = first; last = last; mark = mark }

-- The pieces of tokens whose front has the place `at`, where the first piece begins at `first`.
abbrev pub pieces : ℕ → ℕ → List Token → List Piece
pieces first at [] = []
pieces first at (t ∷ ts) = if is_end t.kind then piece first at t ∷ pieces (at + 1) (at + 1) ts else pieces first (at + 1) ts

-- The tokens of a piece, without the one that ends it.
abbrev pub own : List Token → Piece → List Token
own tokens p = slice_range tokens p.first p.last

-- A piece is this statement: its tokens have so many tags, and what they say has this form.
pub record Fills (tokens : List Token) (p : Piece) (s : Statement) : Type 0 where
  pub names : List Token
  pub said : Said
  pub reads : IsStatement (own tokens p) names said
  pub is : s ≡ record { line = p.mark.line; first = p.first; last = p.last; tags = length names; form = said.form }

-- A piece is no statement.
abbrev pub IsNone : List Token → Piece → Type 0
IsNone tokens p = (names : List Token) (said : Said) → IsStatement (own tokens p) names said → ⊥

-- Where the last of some tokens ends; with none, at this place.
abbrev pub last_end : ℕ → List Token → ℕ
last_end n [] = n
last_end n (t ∷ ts) = last_end t.end ts

-- A part ends by this, after so many of its bytes.
abbrev pub closed : Ending → ℕ → PartEnd
closed e n = record { ending = e; stop = n }

-- Where a part of so many bytes ends by a statement with these tokens: after the word PAUSE, after a dollar sign, or at its
-- last byte. None if it goes on.
abbrev pub closing : ℕ → List Token → Token → Form → Option PartEnd
closing size own mark form.Pause = Some (closed ending.Pause (last_end mark.start own))
closing size own mark _ =
    if is_dollar mark.kind then Some (closed ending.Dollar mark.end) else
    if nat_eq mark.start size then Some (closed ending.Bytes size) else None

-- The statements of a part of so many bytes, whose pieces these are: one after another up to the one by which the part ends so.
pub data Stand (tokens : List Token) (size : ℕ) : List Piece → List Statement → PartEnd → Type 0 where
  ends : (p : Piece) (ps : List Piece) (s : Statement) (c : PartEnd) → Fills tokens p s → closing size (own tokens p) p.mark s.form ≡ Some c → Stand tokens size (p ∷ ps) (s ∷ []) c
  goes_on : (p : Piece) (ps : List Piece) (s : Statement) (ss : List Statement) (c : PartEnd) → Fills tokens p s → closing size (own tokens p) p.mark s.form ≡ None
      → Stand tokens size ps ss c → Stand tokens size (p ∷ ps) (s ∷ ss) c

-- The first piece that is no statement is on this line, and the part does not end before it.
pub data Breaks (tokens : List Token) (size : ℕ) : List Piece → ℕ → Type 0 where
  here : (p : Piece) (ps : List Piece) → IsNone tokens p → Breaks tokens size (p ∷ ps) p.mark.line
  later : (p : Piece) (ps : List Piece) (s : Statement) (n : ℕ) → Fills tokens p s → closing size (own tokens p) p.mark s.form ≡ None → Breaks tokens size ps n → Breaks tokens size (p ∷ ps) n
