-- The text of several lines.
use Rattle.std.specs.Prelude.{ℕ, List, flat_map}
use Rattle.certificate_lines.specs.declared.Version.{Version}
use Rattle.certificate_lines.specs.FieldSpelling.{ended}
use Rattle.certificate_lines.specs.Lines.{Line}
use Rattle.certificate_lines.specs.Spelling.{line_text}

-- Lines with their line feeds.
abbrev pub all_ended : Version → List Line → List ℕ
all_ended v lines = flat_map (λ l. ended (line_text v l)) lines
