use Rattle.std.proofs.Common.{◌<◌, ◌∙◌, ap, subst, sym, arith}
use Rattle.wordset.specs.Words.{Words}
use Rattle.domain.specs.FactInCode.{fact_in_code}
use Rattle.certificate_lines.proofs.AddingLemmas.{row_there}
use Rattle.certificate_lines.proofs.SumAddingLemmas.{no_sites}
use Rattle.certificate_lines.proofs.packed.load.put_sites.Goals as goal

pub returns-then-count-eq0-clause-fact : goal.returns-then-count-eq0-clause-fact
returns-then-count-eq0-clause-fact c = no_sites (fact_in_code c.args.fact.now) c.args.runs.now c.args.count c.if-count-eq0.true c.requires.none

pub returns-then-count-eq1-clause-fact : goal.returns-then-count-eq1-clause-fact
returns-then-count-eq1-clause-fact c =
    c.set_sites_row.ensures.fact
    ∙ ap (λ (set : Words). record (fact_in_code c.args.fact.now) { sites = set })
    (sym (row_there c.args.runs.now 0 c.args.count c.index-runs-0.result c.if-count-eq1.true (omega (arith, c.requires.within)) c.index-runs-0.is
    (subst (λ n. n < 4096) c.index-last.ensures.same c.if-prove.false)))
