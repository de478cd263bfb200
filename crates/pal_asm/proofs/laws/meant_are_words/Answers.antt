use Rattle.pal_asm.proofs.Bounded.{meant_are_words}
use Rattle.pal_asm.proofs.laws.meant_are_words.Goals as goal

pub returns : goal.returns
returns c = meant_are_words
