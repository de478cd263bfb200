-- What reading a certificate takes from a source, and when it asks for memory.
use Rattle.std.specs.Prelude.{◌≡◌, ℕ, ◌+◌, ◌≤◌, false, List, [], ◌∷◌, ◌++◌, length, take, flat_map, Err}
use Rattle.certificate_lines.specs.declared.CertificateFault.{CertificateFault}
use Rattle.certificate_lines.specs.declared.Version.{Version}
use Rattle.certificate_lines.specs.FieldSpelling.{ended}
use Rattle.certificate_lines.specs.Pieces.{most_bytes}
use Rattle.certificate_lines.specs.Lines.{Line, is_end}
use Rattle.certificate_lines.specs.Spelling.{line_text, version_text}
use Rattle.certificate_lines.specs.Reading.{Progress, Start, After, after_line, reading}

-- The bytes bring the answer that their text has this fault: whatever follows them, it has.
abbrev pub Settles : List ℕ → CertificateFault → Type 0
Settles bytes fault = (rest : List ℕ) → reading (bytes ++ rest) ≡ Err fault

-- The bytes bring no answer. That a text is a certificate is never known of its front, since nothing may follow.
abbrev pub IsUnanswered : List ℕ → Type 0
IsUnanswered bytes = (fault : CertificateFault) → Settles bytes fault → ⊥

-- At most so many bytes lie past the one that brings the answer: all fronts that leave more bring none.
abbrev pub IsPrompt : ℕ → List ℕ → Type 0
IsPrompt past given = (n : ℕ) → n + (past + 1) ≤ length given → IsUnanswered (take n given)

-- Where reading stands after these lines more.
abbrev pub after_lines : Progress → List (List ℕ) → Progress
after_lines p [] = p
after_lines p (line ∷ lines) = after_lines (after_line p line) lines

-- The bytes begin with lines of which the last is taken and is not the end. It is kept, so there memory may be refused.
pub record AsksForMemory (bytes : List ℕ) : Type 0 where
  pub lines : List (List ℕ)
  pub rest : List ℕ
  pub split : bytes ≡ flat_map ended lines ++ rest
  pub few : length (flat_map ended lines) ≤ most_bytes
  pub version : Version
  pub line : Line
  pub before : List Line
  pub reached : after_lines Start lines ≡ After version (line ∷ before)
  pub grows : is_end line ≡ false

-- The text of a version's line and of lines, of which the newest is the first.
abbrev pub front : Version → List Line → List ℕ
front v [] = ended (version_text v)
front v (l ∷ ls) = front v ls ++ ended (line_text v l)
