use Rattle.wordset.proofs.bits.reversed.Goals as goal
use Rattle.wordset.proofs.Reversals.{reversed_bit}

pub returns : goal.returns
returns c = λ j h. reversed_bit c.args.lane _ _ _ _ _ _ j c.exchanged-pairs.ensures c.exchanged-fours.ensures c.exchanged-eights.ensures c.exchanged-sixteens.ensures c.exchanged-halves.ensures c.exchanged.ensures h
