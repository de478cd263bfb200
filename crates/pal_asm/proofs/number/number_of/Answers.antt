use Rattle.std.proofs.Common.{arith}
use Rattle.pal_text.specs.Characters.{characters}
use Rattle.pal_asm.proofs.Digits.{from_nothing}
use Rattle.pal_asm.proofs.number.number_of.Goals as goal

pub loop-byte-init : goal.loop-byte-init
loop-byte-init c = (from_nothing c.base-base.result (characters c.args.bytes.now) c.base-base.ensures.least, omega arith)
