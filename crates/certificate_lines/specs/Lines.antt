-- What the lines of a certificate's text say, in versions 1, 2 and 3.
use Rattle.std.specs.Prelude.{ℕ, Bool, true, false}
use Rattle.wordset.specs.Words.{Words}
use Rattle.domain.specs.TrackedCells.{TrackedCell}
use Rattle.domain.specs.Chains.{Chain}
use Rattle.domain.specs.Facts.{Relation, Rules, OfEquations, OfSums}
use Rattle.certificate_lines.specs.declared.Version.{Version}
use Rattle.certificate_lines.specs.declared.Version.TheVariants.{One, Two, Three}
use Rattle.certificate_lines.specs.FieldSpelling.{RoutineLine, Registers}

-- The rules by which its facts are taken further.
abbrev pub rules_of : Version → Rules
rules_of One = OfEquations
rules_of Two = OfEquations
rules_of Three = OfSums

-- What a line says: of a routine; at an address the sites, what holds of the registers, and the offsets; for an entry and an offset
-- the sites and what holds of the registers; of a cell; of a sum; a chain; or that the text ends. In versions 1 and 2 a line of
-- a fact or of an exit says nothing of sites, and each sum is x - y with one word, which is spelled as an equation.
pub data Line : Type 0 where
  RoutineIs : RoutineLine → Line
  FactIs : ℕ → Words → Registers → Words → Line
  ExitIs : ℕ → ℕ → Words → Registers → Line
  CellIs : TrackedCell → Line
  SumIs : Relation → Line
  ChainIs : Chain → Line
  End : Line

-- A line that says more of the fact or exit before it.
abbrev pub is_detail : Line → Bool
is_detail (CellIs c) = true
is_detail (SumIs r) = true
is_detail (ChainIs c) = true
is_detail _ = false

-- A line of a fact or of an exit.
abbrev pub has_details : Line → Bool
has_details (FactIs a s r o) = true
has_details (ExitIs e o s r) = true
has_details _ = false

-- The line says that the text ends.
abbrev pub is_end : Line → Bool
is_end End = true
is_end _ = false

-- The line is that of a routine.
abbrev pub is_routine : Line → Bool
is_routine (RoutineIs r) = true
is_routine _ = false

-- The line is that of a cell.
abbrev pub is_cell : Line → Bool
is_cell (CellIs c) = true
is_cell _ = false

-- The line is that of a sum.
abbrev pub is_sum : Line → Bool
is_sum (SumIs r) = true
is_sum _ = false

-- The line is that of a chain.
abbrev pub is_chain : Line → Bool
is_chain (ChainIs c) = true
is_chain _ = false

-- Versions 1 and 2 have no chains, and no fact or exit that says something of sites; version 3 has all lines.
abbrev pub is_of_sums : Version → Bool
is_of_sums One = false
is_of_sums Two = false
is_of_sums Three = true
