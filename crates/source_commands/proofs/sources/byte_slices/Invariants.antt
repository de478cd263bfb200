use Rattle.std.proofs.Common.{◌≡◌, map, take}
use Rattle.pal_asm.specs.Sources.{texts}
use Rattle.source_commands.proofs.sources.byte_slices.Given as goal

abbrev pub invariant-loop-part : goal.invariant-loop-part
invariant-loop-part g l = texts l.slices.items ≡ map (λ part. part.items) (take l.part-index l.parts)
