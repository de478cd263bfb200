-- The line of the verdict in a report.
use Rattle.std.specs.Prelude.{ℕ, ◌≡◌, ◌++◌, codes, List, Option}
use Rattle.word12.specs.Words.{octal_text}
use Rattle.certificate_lines.specs.Reading.{Text}
use Rattle.declaration.specs.Declaration.{Declaration}
use Rattle.command_parts.specs.declared.status.Status.{Status}
use Rattle.diagnostics.specs.CheckText.{IsVerdictOf}

-- A line stands in a page: the page is some text, then the line, and then more.
pub record HasLine (line page : List ℕ) : Type 0 where
  pub before : List ℕ
  pub rest : List ℕ
  pub page_is : page ≡ before ++ (line ++ rest)

-- The line of a search that is stuck at an address.
abbrev pub stuck_line : ℕ → List ℕ
stuck_line at = (codes "not known: stuck at " ++ octal_text at) ++ codes "\n"

-- The page has the line of the verdict on the image, the declaration and the certificate's lines, as `check` writes it, and the
-- status is that of the verdict.
pub record IsReportOf (image : List (Option ℕ)) (declaration : Declaration) (lines : Text) (status : Status) (page : List ℕ) : Type 0 where
  pub line : List ℕ
  pub checked : IsVerdictOf image declaration lines status line
  pub has : HasLine line page
