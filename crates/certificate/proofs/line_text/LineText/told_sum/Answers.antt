use Rattle.certificate.proofs.SpelledLemmas.{joined}
use Rattle.certificate.proofs.line_text.LineText.told_sum.Goals as goal

pub returns : goal.returns
returns c = joined _ _ _ _ _ (joined _ _ _ _ _ (joined _ _ _ _ _ c.text.ensures c.sum.ensures) c.text-2.ensures) c.set_in.ensures
