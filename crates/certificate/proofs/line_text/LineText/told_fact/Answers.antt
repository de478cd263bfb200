use Rattle.std.proofs.Common.{drop}
use Rattle.certificate_lines.specs.Spelling.{sites_text, words_text, offsets_line}
use Rattle.domain.specs.Offsets.{offsets_in}
use Rattle.certificate_lines.specs.Runs.{set_at, registers_at}
use Rattle.certificate.proofs.SumSpelledLemmas.{fact_written}
use Rattle.certificate.proofs.line_text.LineText.told_fact.Goals as goal

pub returns : goal.returns
returns c = λ steps.
    fact_written (sites_text c.args.version (set_at c.args.runs.now 0 c.args.fact.now.sites))
    (words_text c.args.version (registers_at (drop c.args.fact.now.sites c.args.runs.now) c.args.fact.now.registers)) (offsets_line c.args.version (offsets_in c.args.fact.now.offsets))
    _ _ _ _ _ _ _ _ _ c.text.ensures c.word.ensures c.told.ensures c.text-2.ensures c.told_offsets.ensures
