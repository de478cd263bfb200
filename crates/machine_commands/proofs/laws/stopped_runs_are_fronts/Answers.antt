use Rattle.machine_commands.proofs.StopLawLemmas.{stopped_is_not_never, stopped_runs_are_fronts, stops_are_one}
use Rattle.machine_commands.proofs.laws.stopped_runs_are_fronts.Goals as goal

pub returns-clause-fronts : goal.returns-clause-fronts
returns-clause-fronts c = stopped_runs_are_fronts

pub returns-clause-one : goal.returns-clause-one
returns-clause-one c = stops_are_one

pub returns-clause-never : goal.returns-clause-never
returns-clause-never c = stopped_is_not_never
