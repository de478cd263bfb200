use Rattle.wordset.proofs.WordSet.is_subset.Goals as goal
use Rattle.wordset.proofs.LaneBits.{IsWithin-lanes}

pub returns : goal.returns
returns c = rw (← c.self.view_is, ← c.other.view_is) (IsWithin-lanes c.self.inside.lanes c.other.inside.lanes c.self.invariant c.other.invariant)
