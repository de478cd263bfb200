use Rattle.certificate_lines.specs.FieldsLeft.{left}
use Rattle.certificate_lines.proofs.SumPackedLemmas.{none_added}
use Rattle.certificate_lines.proofs.SumReadLemmas.{added_ends, if_some}
use Rattle.certificate_lines.proofs.line.read_sites.Goals as goal

pub returns-in-One-clause-fits : goal.returns-in-One-clause-fits
returns-in-One-clause-fits c = rw c.in-One.is (if_some (left c.args.fields.now) (none_added c.args.runs.now.items))

pub returns-in-Two-clause-fits : goal.returns-in-Two-clause-fits
returns-in-Two-clause-fits c = rw c.in-Two.is (if_some (left c.args.fields.now) (none_added c.args.runs.now.items))

pub returns-in-Three-clause-fits : goal.returns-in-Three-clause-fits
returns-in-Three-clause-fits c = rw c.in-Three.is (if_some (left c.set.new.self) (added_ends c.args.runs.now.items c.set.new.runs.items))
