use Rattle.std.proofs.Common.{arith}
use Rattle.wordset.proofs.bits.exchanged.Goals as goal
use Rattle.wordset.proofs.Parts.{small_weight}
use Rattle.wordset.proofs.Reversals.{exchanged_bit}

pub returns : goal.returns
returns c = λ j h. exchanged_bit c.args.lane c.args.at _ j c.requires (small_weight c.args.at (omega (arith, c.requires))) h
