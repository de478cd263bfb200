-- How far a reader has come.
use Rattle.std.specs.Prelude.{ℕ, List, Option, Some, None}
use Rattle.pal_text.specs.declared.tokens.Token.{Token}
use Rattle.pal_text.specs.declared.statement.PartEnd.{PartEnd}
use Rattle.pal_text.specs.declared.reader.ReaderState.{ReaderState}
use Rattle.pal_text.specs.declared.reader.ReaderState.TheVariants.{Begins, Ended}

-- The bytes of the part, how many of its tokens stand before the next statement, the tokens of the statement that was read
-- last without the one that ends it, and how the part has ended, if it has.
pub record Progress : Type 0 where
  pub source : List ℕ
  pub count : ℕ
  pub own : List Token
  pub close : Option PartEnd

-- How the part has ended, where a reader stands so.
abbrev pub ended_at : ReaderState → Option PartEnd
ended_at (Begins place) = None
ended_at (Ended c) = Some c
