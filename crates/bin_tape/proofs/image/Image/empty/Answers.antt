use Rattle.std.proofs.Common.{refl}
use Rattle.bin_tape.proofs.Images.{blank, blank_holds}
use Rattle.bin_tape.proofs.image.Image.empty.Goals as goal

pub invariant_of-result : goal.invariant_of-result
invariant_of-result c = blank_holds 4096 refl

pub returns-clause-empty : goal.returns-clause-empty
returns-clause-empty c = λ a lt. blank 4096 a lt
