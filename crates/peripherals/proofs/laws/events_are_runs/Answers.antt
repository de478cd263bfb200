use Rattle.peripherals.proofs.RunLemmas.{events_are_runs}
use Rattle.peripherals.proofs.laws.events_are_runs.Goals as goal

pub returns : goal.returns
returns c = events_are_runs
