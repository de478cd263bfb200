use Rattle.certificate_lines.specs.LineText.{Adds}
use Rattle.certificate_lines.specs.Runs.{registers_at}
use Rattle.certificate_lines.specs.Spelling.{words_text}
use Rattle.certificate.proofs.SpelledLemmas.{joined}
use Rattle.certificate.proofs.line_text.LineText.told.Goals as goal

pub returns : goal.returns
returns c =
    let b : Adds c.sites.new.self.bytes.items c.links.new.self.bytes.items (words_text c.args.version (registers_at c.runs_from-runs.result.now c.args.registers.now)) =
    joined _ _ _ _ _ (joined _ _ _ _ _ (joined _ _ _ _ _ (joined _ _ _ _ _ c.text.ensures c.set_in.ensures) c.told_mq.ensures) c.text-2.ensures) c.links.ensures in
    joined _ _ _ _ _ c.sites.ensures (rw c.from.ensures at (rw c.runs_from-runs.ensures at b))
