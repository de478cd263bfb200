-- Bytes that spell a line.
use Rattle.std.specs.Prelude.{◌≡◌, ℕ, true, List}
use Rattle.certificate_lines.specs.declared.Version.{Version}
use Rattle.certificate_lines.specs.Lines.{Line}
use Rattle.certificate_lines.specs.Spelling.{line_text}
use Rattle.certificate_lines.specs.LineOf.{has_form}
use Rattle.certificate_lines.specs.Laws.{LineFits}

-- The version can say what the line says, it is of its form, and these bytes are its spelling: so it is what `line_of` gives.
pub record Spells (v : Version) (l : Line) (bytes : List ℕ) : Type 0 where
  pub form : has_form v l ≡ true
  pub fits : LineFits v l
  pub text : bytes ≡ line_text v l
