use Rattle.judge.proofs.FirstLemmas.{one_first}
use Rattle.judge.proofs.laws.first_is_one.Goals as goal

pub returns : goal.returns
returns c = one_first
