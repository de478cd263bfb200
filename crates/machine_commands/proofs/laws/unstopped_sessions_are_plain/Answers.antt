use Rattle.machine_commands.proofs.StopLawLemmas.{sessions_without_stops, typed_without_stops}
use Rattle.machine_commands.proofs.laws.unstopped_sessions_are_plain.Goals as goal

pub returns-clause-sessions : goal.returns-clause-sessions
returns-clause-sessions c = sessions_without_stops

pub returns-clause-typed : goal.returns-clause-typed
returns-clause-typed c = typed_without_stops
