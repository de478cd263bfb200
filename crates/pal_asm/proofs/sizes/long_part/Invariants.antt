use Rattle.std.proofs.Common.{◌≡◌, ◌+◌, drop}
use Rattle.pal_asm.specs.Sources.{first_long, texts}
use Rattle.pal_asm.proofs.sizes.long_part.Given as goal

abbrev pub invariant-loop-at : goal.invariant-loop-at
invariant-loop-at l = first_long 1 (texts l.parts) ≡ first_long (l.at + 1) (texts (drop l.at l.parts))
