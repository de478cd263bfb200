use Rattle.certificate.proofs.SpelledLemmas.{joined}
use Rattle.certificate.proofs.line_text.LineText.sum.Goals as goal

pub returns : goal.returns
returns c = joined _ _ _ _ _ c.name.ensures (joined _ _ _ _ _ c.summand.ensures c.third.ensures)
