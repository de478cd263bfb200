use Rattle.certificate.proofs.SpelledLemmas.{joined}
use Rattle.certificate.proofs.line_text.LineText.rank.Goals as goal

pub returns : goal.returns
returns c = joined _ _ _ _ _ c.digit.ensures c.digit-2.ensures
