use Rattle.std.proofs.Common.{drop}
use Rattle.certificate_lines.specs.Spelling.{sites_text, words_text}
use Rattle.certificate_lines.specs.Runs.{set_at, registers_at}
use Rattle.certificate.proofs.SumSpelledLemmas.{exit_written}
use Rattle.certificate.proofs.line_text.LineText.told_exit.Goals as goal

pub returns : goal.returns
returns c = λ steps.
    exit_written (sites_text c.args.version (set_at c.args.runs.now 0 c.args.exit.now.sites))
    (words_text c.args.version (registers_at (drop c.args.exit.now.sites c.args.runs.now) c.args.exit.now.registers))
    _ _ _ _ _ _ _ _ _ _ c.text.ensures c.word.ensures c.text-2.ensures (rw c.from.ensures at c.told_offset.ensures) c.told.ensures
