-- Each part has one answer: this follows from the definitions.
use Rattle.std.specs.Prelude.{◌≡◌, ℕ, List, ◌⊎◌}
use Rattle.pal_text.specs.declared.tokens.Token.{Token}
use Rattle.pal_text.specs.declared.statement.Statement.{Statement}
use Rattle.pal_text.specs.declared.statement.Ending.{Ending}
use Rattle.pal_text.specs.declared.lines.Line.{Line}
use Rattle.pal_text.specs.Parts.{IsPart, IsIllegal}

-- Any two readings of a part are the same.
abbrev pub ReadingIsOne : Type 0
ReadingIsOne = (source : List ℕ) (tokens tokens' : List Token) (statements statements' : List Statement) (lines lines' : List Line) (ending ending' : Ending)
    → IsPart source tokens statements lines ending → IsPart source tokens' statements' lines' ending' → (tokens ≡ tokens') × (statements ≡ statements') × (lines ≡ lines') × (ending ≡ ending')

-- No other line is the first that has a statement without a form.
abbrev pub IllegalIsOne : Type 0
IllegalIsOne = (source : List ℕ) (line line' : ℕ) → IsIllegal source line → IsIllegal source line' → line ≡ line'

-- A part that has a reading has no statement without a form.
abbrev pub ReadingIsNotIllegal : Type 0
ReadingIsNotIllegal = (source : List ℕ) (tokens : List Token) (statements : List Statement) (lines : List Line) (ending : Ending) (line : ℕ)
    → IsPart source tokens statements lines ending → IsIllegal source line → ⊥

-- Each part, however long, has a reading or a first line with a statement that has no form.
abbrev pub EachPartIsAnswered : Type 0
EachPartIsAnswered =
    (source : List ℕ) → ((tokens : List Token) × (statements : List Statement) × (lines : List Line) × (ending : Ending) × IsPart source tokens statements lines ending)
    ⊎ ((line : ℕ) × IsIllegal source line)
