use Rattle.wordset.proofs.bits.weight.Goals as goal
use Rattle.wordset.proofs.Parts.{small_weight, weight_small}

pub from_index-requires : goal.from_index-requires
from_index-requires c = rw (small_weight c.args.at c.requires) (weight_small c.args.at c.requires)
