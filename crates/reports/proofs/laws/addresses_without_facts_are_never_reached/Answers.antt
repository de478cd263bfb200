use Rattle.reports.proofs.ReachedLemmas.{never_in_events, never_in_runs}
use Rattle.reports.proofs.laws.addresses_without_facts_are_never_reached.Goals as goal

pub returns-clause-runs : goal.returns-clause-runs
returns-clause-runs c = never_in_runs c.facts_hold.ensures.runs

pub returns-clause-events : goal.returns-clause-events
returns-clause-events c = never_in_events c.facts_hold.ensures.events
