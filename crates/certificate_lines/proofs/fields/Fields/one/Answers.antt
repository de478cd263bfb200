use Rattle.std.proofs.Common.{◌<◌, subst}
use Rattle.certificate_lines.proofs.RunLemmas.{as_is}
use Rattle.certificate_lines.proofs.SumAddingLemmas.{one_added}
use Rattle.certificate_lines.proofs.fields.Fields.one.Goals as goal

pub returns-in-Ok-clause-read : goal.returns-in-Ok-clause-read
returns-in-Ok-clause-read c = as_is _ (one_added _ _ c.args.word (subst (λ n. n < 4096) c.index-index.ensures.same c.if-prove.false) c.in-Ok.ensures.ok)
