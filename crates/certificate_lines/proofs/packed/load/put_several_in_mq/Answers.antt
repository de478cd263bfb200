use Rattle.std.proofs.Common.{◌∙◌, ap}
use Rattle.wordset.specs.Words.{Words}
use Rattle.domain.specs.FactInCode.{fact_in_code}
use Rattle.certificate_lines.proofs.packed.load.put_several_in_mq.Goals as goal

pub returns-clause-fact : goal.returns-clause-fact
returns-clause-fact c = c.set_mq.ensures.fact ∙ ap (λ (set : Words). record (fact_in_code c.args.fact.now) { mq = set }) c.set_in.ensures
