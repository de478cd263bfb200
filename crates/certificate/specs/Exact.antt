-- One spelling has one meaning: what a text is read as has that text, and it is read as what has it.
use Rattle.std.specs.Prelude.{◌≡◌, ℕ, ◌≤◌, true, List, [], length, Some, Ok, Err}
use Rattle.std.specs.List.{list_any}
use Rattle.certificate_lines.specs.declared.CertificateFault.{CertificateFault}
use Rattle.certificate_lines.specs.Pieces.{most_bytes}
use Rattle.certificate_lines.specs.ReadFaults.{is_of_bytes}
use Rattle.certificate_lines.specs.declared.Version.{Version}
use Rattle.certificate_lines.specs.Lines.{Line, is_end}
use Rattle.certificate_lines.specs.LineOf.{line_of}
use Rattle.certificate_lines.specs.Reading.{Text, reading}
use Rattle.certificate_lines.specs.Laws.{SpelledIsRead, bytes_of}
use Rattle.certificate_lines.specs.Line.{Spells}
use Rattle.certificate_lines.specs.Found.{Follow}

-- Each line is of its form, its version can say what it says, and it may come after those before it; and one of them is the end, after
-- which none may come.
pub record AreLines (t : Text) : Type 0 where
  pub order : Follow t.version [] t.lines
  pub has_end : list_any is_end t.lines ≡ true

-- A line's text is read as the line, and bytes that are read as a line are its text. So no two lines have one text, and no two
-- certificates have.
pub record SpellingLaw : Type 0 where
  pub line : SpelledIsRead
  pub spelled : (v : Version) (bytes : List ℕ) (l : Line) → line_of v bytes ≡ Some l → Spells v l bytes
  pub texts : (s t : Text) → AreLines s → AreLines t → bytes_of s ≡ bytes_of t → s ≡ t

-- The bytes are the text of this certificate, whose lines are of their form, and there are not more than are read.
pub record IsTextOf (bytes : List ℕ) (t : Text) : Type 0 where
  pub form : AreLines t
  pub text : bytes ≡ bytes_of t
  pub few : length bytes ≤ most_bytes

-- The text of a certificate is read as the certificate, unless it is longer than what is read; a text that is read as a certificate is
-- its text; and no text has a fault that is not of its bytes.
pub record ReadingLaw : Type 0 where
  pub text : (t : Text) → AreLines t → length (bytes_of t) ≤ most_bytes → reading (bytes_of t) ≡ Ok t
  pub lines : (bytes : List ℕ) (t : Text) → reading bytes ≡ Ok t → IsTextOf bytes t
  pub fault : (bytes : List ℕ) (f : CertificateFault) → reading bytes ≡ Err f → is_of_bytes f ≡ true
