-- What `guess` writes.
use Rattle.std.specs.Prelude.{ℕ, ◌≡◌, List, Option}
use Rattle.analyser.specs.Versions.{IsVersionFor}
use Rattle.certificate.specs.Exact.{AreLines}
use Rattle.certificate_lines.specs.Laws.{bytes_of}
use Rattle.certificate_lines.specs.Reading.{Text}
use Rattle.declaration.specs.Declaration.{Declaration}
use Rattle.diagnostics.specs.CheckText.{IsYes, checked_case}
use Rattle.command_parts.specs.Answers.{OfProgram}
use Rattle.command_parts.specs.declared.status.Status.{Status}
use Rattle.command_parts.specs.declared.status.Status.TheVariants.{Done}

-- This is the text of some certificate, in the version of the declared machine or in version 3, for which every
-- condition holds, so that no run of the program with these words violates the declaration. The command is done.
pub record IsGuessOf (image : List (Option ℕ)) (declaration : Declaration) (status : Status) (guess : List ℕ) : Type 0 where
  pub lines : Text
  pub lines_are : AreLines lines
  pub version_is : IsVersionFor declaration.profile lines.version
  pub guess_is : guess ≡ bytes_of lines
  pub accepted : IsYes (checked_case image declaration lines)
  pub status_is : status ≡ Done

-- The frames are a tape, the text is that of a declaration, and this is what is guessed for them.
abbrev pub IsGuess : Option (List ℕ) → Option (List ℕ) → List ℕ → Type 0
IsGuess frames text guess = OfProgram frames text IsGuessOf Done guess
