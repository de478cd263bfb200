use Rattle.certificate_lines.specs.FieldSpelling.{rank_text}
use Rattle.certificate_lines.specs.LineText.{Adds}
use Rattle.certificate.proofs.SpelledLemmas.{joined}
use Rattle.certificate.proofs.line_text.LineText.routine.Goals as goal

pub returns : goal.returns
returns c =
    let rank : Adds c.text-2.new.self.bytes.items c.rank.new.self.bytes.items (rank_text c.args.routine.now.rank) = rw c.from.ensures at c.rank.ensures in
    let a = joined _ _ _ _ _ (joined _ _ _ _ _ (joined _ _ _ _ _ c.text.ensures c.word.ensures) c.text-2.ensures) rank in
    joined _ _ _ _ _ (joined _ _ _ _ _ (joined _ _ _ _ _ (joined _ _ _ _ _ a c.text-3.ensures) c.set_in.ensures) c.text-4.ensures) c.set_in-2.ensures
