use Rattle.std.proofs.Common.{◌≡◌, length}
use Rattle.pal_asm.specs.SourceInCode.{skip}
use Rattle.pal_asm.proofs.listing.from_place.Given as goal

abbrev pub invariant-loop-rest : goal.invariant-loop-rest
invariant-loop-rest l = skip l.place l.words ≡ skip l.place l.rest

abbrev pub decreases-loop-rest : goal.decreases-loop-rest
decreases-loop-rest l = length l.rest
