use Rattle.domain.proofs.OffsetLemmas.{all_in}
use Rattle.domain.proofs.return_offsets.ReturnOffsets.all.Goals as goal

pub returns : goal.returns
returns c = all_in
