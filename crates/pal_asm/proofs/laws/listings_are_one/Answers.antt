use Rattle.pal_asm.proofs.OneListing.{lists_one}
use Rattle.pal_asm.proofs.laws.listings_are_one.Goals as goal

pub returns : goal.returns
returns c = lists_one
