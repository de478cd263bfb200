use Rattle.std.proofs.Common.{◌∙◌, [], drop, ap}
use Rattle.wordset.specs.Words.{Words}
use Rattle.certificate_lines.specs.Runs.{set_at, registers_at}
use Rattle.certificate_lines.specs.Reading.{fact_said}
use Rattle.certificate_lines.proofs.packed.load.begin_said.Goals as goal

pub returns-in-Fact-clause-says : goal.returns-in-Fact-clause-says
returns-in-Fact-clause-says c = rw c.in-Fact.is (λ here. c.begin.ensures.fact)

pub returns-in-Exit-clause-says : goal.returns-in-Exit-clause-says
returns-in-Exit-clause-says c =
    let s = c.in-Exit.said in
    rw c.in-Exit.is (λ here. c.begin-in-Exit.ensures.fact ∙ ap (λ (o : Words). fact_said (set_at c.args.lent.now.runs.now 0 s.sites) (registers_at (drop s.sites c.args.lent.now.runs.now) s.registers) o []) c.all.ensures)
