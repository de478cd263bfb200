use Rattle.command_laws.proofs.Answered.{runs_end}
use Rattle.command_laws.proofs.OneLemmas.{runs_are_one}
use Rattle.command_laws.proofs.laws.runs_end.Goals as goal

pub returns : goal.returns
returns c = record { end = runs_end; one = runs_are_one }
