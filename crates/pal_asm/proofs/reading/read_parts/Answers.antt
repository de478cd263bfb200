use Rattle.std.proofs.Common.{refl}
use Rattle.pal_asm.proofs.Within.{short_at}
use Rattle.pal_asm.proofs.Turned.{ends_here, goes_on, all_read}
use Rattle.pal_asm.proofs.reading.read_parts.Goals as goal

pub read_part-requires : goal.read_part-requires
read_part-requires g c = short_at c.args.parts.now c.loop-at.at _ c.requires.sizes c.loop-at-test.true

pub returns-in-NoPart : goal.returns-in-NoPart
returns-in-NoPart g c = ends_here c.args.parts.now c.loop-at.at _ c.loop-at.radix _ _ _ _ _ c.loop-at-test.true refl c.loop-at.invariant c.in_ok-next.field-0 c.in-NoPart.is c.in_ok-next.ensures

pub loop-at-preserved : goal.loop-at-preserved
loop-at-preserved g c = goes_on c.args.parts.now c.loop-at.at _ c.loop-at.radix _ _ _ _ _ c.loop-at-test.true refl c.loop-at.invariant c.in-NextPart.next c.in_ok-next.field-0 c.in-NextPart.is c.in_ok-next.ensures

pub returns : goal.returns
returns g c = all_read c.args.parts.now c.loop-at.at c.loop-at.radix _ _ c.loop-at-test.false c.loop-at.invariant
