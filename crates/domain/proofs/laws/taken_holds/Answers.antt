use Rattle.domain.proofs.MoveLemmas.{free_stays_true, taking_holds, weakly_updated_holds}
use Rattle.domain.proofs.laws.taken_holds.Goals as goal

pub returns : goal.returns
returns c = record { free = free_stays_true; taking = taking_holds; one_of_several = weakly_updated_holds }
