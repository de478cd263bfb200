use Rattle.domain.proofs.MoveLemmas.{counted_up_is_so}
use Rattle.domain.proofs.laws.counted_up_is_so.Goals as goal

pub returns : goal.returns
returns c = counted_up_is_so
