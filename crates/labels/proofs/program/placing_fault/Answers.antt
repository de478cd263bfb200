use Rattle.labels.proofs.Numbers.{not_refused}
use Rattle.labels.proofs.program.placing_fault.Goals as goal

pub returns-in_default : goal.returns-in_default
returns-in_default c = not_refused c.args.fault c.in_default.not-NoMemory
