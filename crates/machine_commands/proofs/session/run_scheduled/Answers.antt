use Rattle.std.proofs.Common.{Some, None}
use Rattle.machine_commands.proofs.session.run_scheduled.Goals as goal

pub returns-in-None-clause-run : goal.returns-in-None-clause-run
returns-in-None-clause-run g c = rw c.in-None.is c.run_reported.ensures.run

pub returns-in-Some-clause-run : goal.returns-in-Some-clause-run
returns-in-Some-clause-run g c = rw c.in-Some.is c.run_with_last.ensures.run
