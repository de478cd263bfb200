-- Where tokens, statements and lines stand.
use Rattle.std.specs.Prelude.{ℕ, ◌≤◌, ◌<◌, List, [], ◌∷◌, length}
use Rattle.pal_text.specs.declared.tokens.Token.{Token}
use Rattle.pal_text.specs.declared.statement.Statement.{Statement}
use Rattle.pal_text.specs.declared.lines.Line.{Line}

-- Tokens, the newest first, stand before this place, each before those that are newer.
abbrev pub IsOrdered : ℕ → List Token → Type 0
IsOrdered n [] = Unit {0}
IsOrdered n (t ∷ ts) = (t.start ≤ t.end) × (t.end ≤ n) × IsOrdered t.start ts

-- A statement's tokens, and the one that ends it, are among these.
pub record IsPlaced (tokens : List Token) (s : Statement) : Type 0 where
  pub forward : s.first ≤ s.last
  pub inside : s.last < length tokens

-- A line stands within so many bytes.
pub record IsLineWithin (size : ℕ) (l : Line) : Type 0 where
  pub forward : l.start ≤ l.end
  pub inside : l.end ≤ size
