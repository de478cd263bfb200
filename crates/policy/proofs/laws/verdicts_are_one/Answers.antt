use Rattle.policy.proofs.LawLemmas.{run_is_one, verdict_is_one}
use Rattle.policy.proofs.laws.verdicts_are_one.Goals as goal

pub returns : goal.returns
returns c = record { run = run_is_one; told = verdict_is_one }
