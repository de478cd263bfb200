use Rattle.policy.proofs.DeclaredLemmas.{events_are_runs, safe_in_events}
use Rattle.policy.proofs.laws.declared_events_are_runs.Goals as goal

pub returns : goal.returns
returns c = record { runs = events_are_runs; safe = safe_in_events }
