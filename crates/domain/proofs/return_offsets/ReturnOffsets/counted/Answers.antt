use Rattle.domain.proofs.OffsetLemmas.{moved_up}
use Rattle.domain.proofs.return_offsets.ReturnOffsets.counted.Goals as goal

pub returns : goal.returns
returns c = moved_up c.args.self.bits
