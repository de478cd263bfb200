use Rattle.wordset.proofs.WordSet.is_empty.Goals as goal
use Rattle.wordset.proofs.LaneBits.{none-lanes}

pub returns : goal.returns
returns c = rw (← c.self.view_is) (none-lanes c.self.inside.lanes c.self.invariant)
