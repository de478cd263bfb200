use Rattle.domain.proofs.OffsetLemmas.{none_in}
use Rattle.domain.proofs.return_offsets.ReturnOffsets.none.Goals as goal

pub returns : goal.returns
returns c = none_in
