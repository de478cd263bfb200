use Rattle.std.proofs.Common.{◌≡◌, length}
use Rattle.pal_text.specs.Characters.{characters}
use Rattle.pal_asm.specs.Listings.{without_front}
use Rattle.pal_asm.proofs.listing.from_text.Given as goal

abbrev pub invariant-loop-rest : goal.invariant-loop-rest
invariant-loop-rest l = without_front (characters l.rest) ≡ without_front (characters l.bytes)

abbrev pub decreases-loop-rest : goal.decreases-loop-rest
decreases-loop-rest l = length l.rest
