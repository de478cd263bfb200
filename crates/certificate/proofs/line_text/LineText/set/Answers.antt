use Rattle.certificate.proofs.SpelledLemmas.{full_written}
use Rattle.certificate.proofs.line_text.LineText.set.Goals as goal

pub returns-then-stand_apart : goal.returns-then-stand_apart
returns-then-stand_apart c =
    full_written _ _ c.args.runs.now c.if-not-is_empty.ensures (c.stand_apart.ensures c.if-stand_apart.true) c.runs.ensures
