use Rattle.std.proofs.Common.{◌∙◌, sym}
use Rattle.certificate.proofs.SpelledLemmas.{none}
use Rattle.certificate.proofs.line_text.LineText.only_word.Goals as goal

pub returns-in-None : goal.returns-in-None
returns-in-None c =
    let e = sym c.only.ensures ∙ c.in-None.is in rw (← c.set_of.ensures, e) (none c.args.self.now.bytes.items)

pub returns-in-Some : goal.returns-in-Some
returns-in-Some c = let e = sym c.only.ensures ∙ c.in-Some.is in rw (← c.set_of.ensures, e) c.word.ensures
