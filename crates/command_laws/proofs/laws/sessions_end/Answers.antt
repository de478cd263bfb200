use Rattle.command_laws.proofs.OneLemmas.{sessions_are_one}
use Rattle.command_laws.proofs.SessionsAnswered.{sessions_end}
use Rattle.command_laws.proofs.laws.sessions_end.Goals as goal

pub returns : goal.returns
returns c = record { end = sessions_end; one = sessions_are_one }
