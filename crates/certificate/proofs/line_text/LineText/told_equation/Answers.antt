use Rattle.wordset.specs.Words.{only}
use Rattle.certificate_lines.specs.Runs.{set_at}
use Rattle.certificate_lines.specs.LineText.{Adds}
use Rattle.certificate_lines.specs.Spelling.{word_text}
use Rattle.certificate_lines.proofs.PackedLemmas.{front_of}
use Rattle.certificate.proofs.SpelledLemmas.{joined}
use Rattle.certificate.proofs.line_text.LineText.told_equation.Goals as goal

pub returns : goal.returns
returns c =
    let word : Adds c.text-3.new.self.bytes.items c.only_word.new.self.bytes.items (word_text (only (set_at c.args.runs.now 0 c.args.count))) =
    rw (front_of c.args.runs.now c.args.count) (rw c.from.ensures at c.only_word.ensures) in
    joined _ _ _ _ _ (joined _ _ _ _ _ (joined _ _ _ _ _ c.text.ensures (joined _ _ _ _ _ (joined _ _ _ _ _ c.name.ensures c.text-2.ensures) c.term.ensures)) c.text-3.ensures) word
