use Rattle.std.proofs.Common.{take}
use Rattle.std.specs.Prelude.{reverse}
use Rattle.pal_acts.specs.Sources.{IsImage}
use Rattle.pal_acts.proofs.assembly.image_of.Given as goal

abbrev pub invariant-loop-word : goal.invariant-loop-word
invariant-loop-word l = IsImage (reverse (take l.word-index l.found)) l.image
