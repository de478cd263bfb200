use Rattle.std.proofs.Common.{◌<◌, ◌∙◌, ap, subst, sym}
use Rattle.wordset.specs.Words.{Words}
use Rattle.domain.specs.FactInCode.{fact_in_code}
use Rattle.certificate_lines.proofs.AddingLemmas.{row_there}
use Rattle.certificate_lines.proofs.packed.load.put_mq.Goals as goal

pub returns-then-count-eq1-clause-fact : goal.returns-then-count-eq1-clause-fact
returns-then-count-eq1-clause-fact c =
    c.set_mq_row.ensures.fact
    ∙ ap (λ (set : Words). record (fact_in_code c.args.fact.now) { mq = set })
    (sym (row_there c.args.runs.now c.args.first c.args.count c.index-runs-first.result c.if-count-eq1.true c.requires c.index-runs-first.is
    (subst (λ n. n < 4096) c.index-last.ensures.same c.if-prove.false)))
