use Rattle.judge.proofs.TrueLemmas.{facts_hold_in_runs, facts_hold_in_events}
use Rattle.judge.proofs.laws.facts_hold.Goals as goal

pub returns : goal.returns
returns c = record { runs = facts_hold_in_runs; events = facts_hold_in_events }
