use Rattle.certificate_lines.proofs.SumPackedLemmas.{none_added}
use Rattle.certificate_lines.proofs.packed.store.lay_sites.Goals as goal

pub returns-else-with_sites-clause-laid : goal.returns-else-with_sites-clause-laid
returns-else-with_sites-clause-laid g c = rw c.if-with_sites.false (none_added c.args.runs.now.items)
