use Rattle.certificate_lines.proofs.SumPackedLemmas.{laid_alone}
use Rattle.certificate_lines.proofs.packed.store.lay_same.Goals as goal

pub returns-clause-packed : goal.returns-clause-packed
returns-clause-packed g c =
    laid_alone c.args.runs.now.items c.lay_all.new.runs.items c.args.lent.now.runs.now c.args.steps.now.items c.lay_all.new.steps.items c.args.lent.now.steps.now
    c.args.lent.now.line.now c.run_count-run_count.result c.step_count-step_count.result c.run_count-run_count.ensures c.step_count-step_count.ensures
    c.in_ok-lay_all.ensures.whole.0 c.in_ok-lay_all.ensures.whole.1 c.requires.within
