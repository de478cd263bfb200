-- What a part of a source is.
use Rattle.std.specs.Prelude.{◌≡◌, ℕ, ◌+◌, List, [], ◌∷◌, length, take}
use Rattle.pal_text.specs.declared.tokens.Token.{Token}
use Rattle.pal_text.specs.declared.statement.Statement.{Statement}
use Rattle.pal_text.specs.declared.statement.Ending.{Ending}
use Rattle.pal_text.specs.declared.lines.Line.{Line}
use Rattle.pal_text.specs.declared.fault.TextFault.{TextFault}
use Rattle.pal_text.specs.declared.fault.TextFault.TheVariants.{Illegal, TooLong, NoMemory}
use Rattle.pal_text.specs.Names.{part_tokens}
use Rattle.pal_text.specs.Statements.{pieces, closed, Stand, Breaks}
use Rattle.pal_text.specs.Lines.{all_lines}

-- These bytes are a part with these tokens, statements, lines and this ending.
pub record IsPart (source : List ℕ) (tokens : List Token) (statements : List Statement) (lines : List Line) (ending : Ending) : Type 0 where
  pub stop : ℕ
  pub tokens_are : tokens ≡ part_tokens source
  pub statements_are : Stand tokens (length source) (pieces 0 0 tokens) statements (closed ending stop)
  pub lines_are : lines ≡ all_lines (take stop source)

-- The first statement of these bytes that has no form is on this line.
abbrev pub IsIllegal : List ℕ → ℕ → Type 0
IsIllegal source line = Breaks (part_tokens source) (length source) (pieces 0 0 (part_tokens source)) line

-- How many tokens the last of some statements and those before it take, each with the one that ends it; with none, so many.
abbrev pub past : ℕ → List Statement → ℕ
past n [] = n
past n (s ∷ ss) = past (s.last + 1) ss

-- What a refusal of a part that is not too long says of it.
abbrev pub IsFault : List ℕ → TextFault → Type 0
IsFault source (Illegal n) = IsIllegal source n
IsFault source TooLong = ⊥
IsFault source NoMemory = Unit {0}
