use Rattle.certificate_lines.specs.FieldsLeft.{left}
use Rattle.certificate_lines.specs.Runs.{added}
use Rattle.certificate_lines.proofs.SumReadLemmas.{added_ends, if_some, all_some}
use Rattle.certificate_lines.proofs.line.read_mq.Goals as goal

pub returns-in-One-clause-some : goal.returns-in-One-clause-some
returns-in-One-clause-some c = all_some (left c.args.fields.now) (left c.all.new.self) (added c.args.runs.now.items c.all.new.runs.items) c.all.ensures.read

pub returns-in-Two-clause-fits : goal.returns-in-Two-clause-fits
returns-in-Two-clause-fits c = rw c.in-Two.is (if_some (left c.read_told_mq.new.fields) (added_ends c.args.runs.now.items c.read_told_mq.new.runs.items))

pub returns-in-Three-clause-fits : goal.returns-in-Three-clause-fits
returns-in-Three-clause-fits c = rw c.in-Three.is (if_some (left c.read_told_mq-in-Three.new.fields) (added_ends c.args.runs.now.items c.read_told_mq-in-Three.new.runs.items))
