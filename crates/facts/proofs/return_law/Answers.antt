use Rattle.facts.proofs.JoinedLemmas.{joined_holds}
use Rattle.facts.proofs.return_law.Goals as goal

pub returns : goal.returns
returns c = joined_holds
