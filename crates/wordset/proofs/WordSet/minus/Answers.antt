use Rattle.wordset.proofs.WordSet.minus.Goals as goal
use Rattle.wordset.proofs.LaneBits.{minus_is}

pub returns : goal.returns
returns c = rw (← c.self.view_is, ← c.other.view_is) (minus_is c.self.inside.lanes c.other.inside.lanes c.self.invariant c.other.invariant)
