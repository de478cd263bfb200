use Rattle.std.proofs.Common.{refl}
use Rattle.certificate_lines.proofs.SumPackedLemmas.{rest_from}
use Rattle.certificate_lines.proofs.packed.steps_from.Goals as goal

pub returns : goal.returns
returns c = rest_from c.args.steps.now c.args.steps.now c.args.first c.min.result refl c.min.ensures
