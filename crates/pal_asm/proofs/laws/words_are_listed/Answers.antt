use Rattle.pal_asm.proofs.Listed.{words_are_listed}
use Rattle.pal_asm.proofs.laws.words_are_listed.Goals as goal

pub returns : goal.returns
returns c = words_are_listed
