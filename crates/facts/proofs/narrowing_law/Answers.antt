use Rattle.facts.proofs.KeepingLemmas.{narrowed_few, narrowed_short}
use Rattle.facts.proofs.narrowing_law.Goals as goal

pub returns : goal.returns
returns c = λ image f few short. (narrowed_few image f few, narrowed_short image f short)
