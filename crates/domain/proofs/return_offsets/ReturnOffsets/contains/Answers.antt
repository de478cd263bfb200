use Rattle.domain.proofs.OffsetLemmas.{has_bit}
use Rattle.domain.proofs.return_offsets.ReturnOffsets.contains.Goals as goal

pub returns : goal.returns
returns c = has_bit c.args.self.bits c.args.offset c.requires
