use Rattle.domain.proofs.MoveLemmas.{moved_is_so, all_moved_is_so, chains_are_counted, counted_holds}
use Rattle.domain.proofs.laws.counted_holds.Goals as goal

pub returns : goal.returns
returns c = record { relation = moved_is_so; relations = all_moved_is_so; chains = chains_are_counted; counted = counted_holds }
