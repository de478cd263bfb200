-- The statements of a part, one after another.
use Rattle.std.specs.Prelude.{◌≡◌, ℕ, ◌+◌, false, List, [], ◌∷◌, Option, Some, None, drop, length, slice_get, slice_range}
use Rattle.pal_text.specs.declared.tokens.Token.{Token}
use Rattle.pal_text.specs.declared.statement.PartEnd.{PartEnd}
use Rattle.pal_text.specs.declared.fault.StatementFault.{StatementFault}
use Rattle.pal_text.specs.declared.fault.StatementFault.TheVariants.{Illegal, NoMemory}
use Rattle.pal_text.specs.declared.reader.PartItem.{PartItem}
use Rattle.pal_text.specs.declared.reader.PartItem.TheVariants as next
use Rattle.pal_text.specs.declared.reader.DelimitedStatement.{DelimitedStatement}
use Rattle.pal_text.specs.Names.{part_tokens}
use Rattle.pal_text.specs.Progress.{Progress}
use Rattle.pal_text.specs.Tokens.{is_end}
use Rattle.pal_text.specs.Statements.{Piece, piece, pieces, Fills, IsNone, closing}

-- The pieces of a part after so many of its tokens.
abbrev pub rest : List ℕ → ℕ → List Piece
rest source n = pieces n n (drop n (part_tokens source))

-- The next piece, after n tokens, is this statement, whose tokens these are; m tokens stand before what follows it, and the
-- part has ended so then, if it has.
pub record IsNext (source : List ℕ) (n : ℕ) (found : DelimitedStatement) (own : List Token) (m : ℕ) (close : Option PartEnd) : Type 0 where
  pub rest_is : rest source n ≡ piece n found.statement.last found.mark ∷ rest source m
  pub fills : Fills (part_tokens source) (piece n found.statement.last found.mark) found.statement
  pub own_is : own ≡ slice_range (part_tokens source) n found.statement.last
  pub count_is : m ≡ found.statement.last + 1
  pub close_is : close ≡ closing (length source) own found.mark found.statement.form

-- What a reader finds: the next statement, where the part has not ended, or how it has.
abbrev pub Finds : Progress → PartItem → Progress → Type 0
Finds old (next.Statement found) new = (old.close ≡ None) × IsNext old.source old.count found new.own new.count new.close
Finds old (next.End c) new = (old.close ≡ Some c) × (new.close ≡ Some c) × (new.count ≡ old.count) × (new.own ≡ [])

-- The next piece, after n tokens, is no statement, and the token that ends it is on this line.
abbrev pub IsBroken : List ℕ → ℕ → ℕ → Type 0
IsBroken source n line = (p : Piece) × (rest source n ≡ p ∷ rest source (p.last + 1)) × IsNone (part_tokens source) p × (line ≡ p.mark.line)

-- The next piece, after n tokens, has a token: the next one ends no statement.
abbrev pub HasToken : List ℕ → ℕ → Type 0
HasToken source n = (token : Token) × (slice_get (part_tokens source) n ≡ Some token) × (is_end token.kind ≡ false)

-- A fault at the next piece, after n tokens. Memory is wanted only for a token.
abbrev pub StopsAt : List ℕ → ℕ → StatementFault → Type 0
StopsAt source n (Illegal line) = IsBroken source n line
StopsAt source n NoMemory = HasToken source n

-- A reader tells a fault only if the part has not ended.
abbrev pub BreaksNext : Progress → StatementFault → Type 0
BreaksNext at fault = (at.close ≡ None) × StopsAt at.source at.count fault
