use Rattle.facts.proofs.StepLemmas.{step_law}
use Rattle.facts.proofs.step_law.Goals as goal

pub returns : goal.returns
returns c = step_law
