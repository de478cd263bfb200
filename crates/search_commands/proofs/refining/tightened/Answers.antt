use Rattle.std.proofs.lemmas.Result.{err_from_is_err_and}
use Rattle.search_commands.proofs.RefiningLemmas.{refine_fault}
use Rattle.search_commands.proofs.refining.tightened.Goals as goal

pub returns-in_default-clause-refined : goal.returns-in_default-clause-refined
returns-in_default-clause-refined g c = c.unchanged.ensures.refined c.args.image.now

pub returns-in_default-2-clause-refined : goal.returns-in_default-2-clause-refined
returns-in_default-2-clause-refined g c = c.unchanged-in_default-2.ensures.refined c.args.image.now

pub returns-in_err-given-clause-faults : goal.returns-in_err-given-clause-faults
returns-in_err-given-clause-faults g c =
    let p = err_from_is_err_and c.from_residual.result c.from_residual.ensures.1 in
    rw (p.1, p.2) (refine_fault c.args.text.now c.in_err-given.field-0.0 c.in_err-given.ensures.refused)
