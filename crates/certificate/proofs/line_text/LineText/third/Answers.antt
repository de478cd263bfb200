use Rattle.certificate.proofs.SpelledLemmas.{joined, none}
use Rattle.certificate.proofs.SumSpelledLemmas.{third_written}
use Rattle.certificate.proofs.line_text.LineText.third.Goals as goal

pub returns-in-None : goal.returns-in-None
returns-in-None c = rw c.in-None.is (none c.args.self.now.bytes.items)

pub returns-in-Some : goal.returns-in-Some
returns-in-Some c =
    rw c.in-Some.is (third_written _ _ c.args.coefficient c.in-Some.cell (rw c.negated.ensures at
    (joined _ _ _ _ _ (joined _ _ _ _ _ (joined _ _ _ _ _ c.push.ensures.adds c.coefficient.ensures) c.push-in-Some.ensures.adds) c.word.ensures)))
