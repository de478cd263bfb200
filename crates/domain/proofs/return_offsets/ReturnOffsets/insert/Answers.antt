use Rattle.std.proofs.Common.{◌*◌, ◌%◌, ◌^◌, ◌<◌, arith}
use Rattle.std.proofs.lemmas.Nat.{or_lt}
use Rattle.domain.proofs.OffsetLemmas.{put_in}
use Rattle.domain.proofs.return_offsets.ReturnOffsets.insert.Goals as goal

pub invariant_of-self : goal.invariant_of-self
invariant_of-self c =
    let low : 1 * 2 ^ c.args.offset % 18446744073709551616 < 18446744073709551616 = omega arith in
    record { fits = or_lt 64 c.args.self.now.bits (1 * 2 ^ c.args.offset % 18446744073709551616) c.args.self.now.fits low }

pub returns : goal.returns
returns c = put_in c.args.self.now.bits c.args.offset c.requires
