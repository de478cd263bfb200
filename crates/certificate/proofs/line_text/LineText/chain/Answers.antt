use Rattle.certificate.proofs.SpelledLemmas.{joined}
use Rattle.certificate.proofs.line_text.LineText.chain.Goals as goal

pub returns : goal.returns
returns c =
    joined _ _ _ _ _ (joined _ _ _ _ _ (joined _ _ _ _ _ (joined _ _ _ _ _ (joined _ _ _ _ _ (joined _ _ _ _ _ c.text.ensures c.word.ensures) c.text-2.ensures) c.word-2.ensures) c.text-3.ensures)
    c.links.ensures) (rw c.from.ensures at c.steps.ensures)
