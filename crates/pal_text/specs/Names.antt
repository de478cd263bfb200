-- Symbols by their first six characters.
use Rattle.std.specs.Prelude.{ℕ, ◌≤◌, Bool, ◌&&◌, ◌||◌, not, if◌then◌else◌, List, ◌++◌, map, take, replicate, slice_range, nat_eq, codes}
use Rattle.std.specs.Cmp.Lexicographic.{pointwise}
use Rattle.pal_text.specs.declared.tokens.TokenKind.{TokenKind}
use Rattle.pal_text.specs.declared.tokens.TokenKind.TheVariants.{Symbol, Decimal, Octal, Pause}
use Rattle.pal_text.specs.declared.tokens.Token.{Token}
use Rattle.pal_text.specs.Characters.{char, characters}
use Rattle.pal_text.specs.Tokens.{is_letter, all_tokens}

-- The name of the symbol with these bytes: its first six characters, with spaces after fewer.
abbrev pub name : List ℕ → List ℕ
name bytes = take 6 (characters bytes ++ replicate 6 (char " "))

-- DECIMAL, OCTAL and PAUSE are told by their names. Every other symbol is an ordinary one.
abbrev pub named_kind : List ℕ → TokenKind
named_kind letters =
    if pointwise nat_eq letters (codes "DECIMA") then Decimal else
    if pointwise nat_eq letters (codes "OCTAL ") then Octal else
    if pointwise nat_eq letters (codes "PAUSE ") then Pause else Symbol

-- A letter that begins none of these names.
abbrev pub begins_none : ℕ → Bool
begins_none c = is_letter c && not (nat_eq c (char "D") || nat_eq c (char "O") || nat_eq c (char "P"))

-- A token stands within so many bytes.
pub record IsWithin (size : ℕ) (t : Token) : Type 0 where
  pub forward : t.start ≤ t.end
  pub inside : t.end ≤ size

-- The bytes of a token.
abbrev pub bytes_of : List ℕ → Token → List ℕ
bytes_of source t = slice_range source t.start t.end

-- The kind of a token of this part whose characters give it this one: a symbol is told by its name, whether it is
-- DECIMAL, OCTAL, PAUSE or an ordinary one, and any other kind stays.
abbrev pub with_name : List ℕ → Token → TokenKind → TokenKind
with_name source t Symbol = named_kind (name (bytes_of source t))
with_name source t k = k

-- A token of this part with its kind told by its name, if it is a symbol.
abbrev pub named : List ℕ → Token → Token
named source t = record t { kind = with_name source t t.kind }

-- The tokens of a part in order, with directions told from other symbols.
abbrev pub part_tokens : List ℕ → List Token
part_tokens source = map (named source) (all_tokens source)
