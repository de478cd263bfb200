use Rattle.wordset.proofs.WordSet.union.Goals as goal
use Rattle.wordset.proofs.LaneBits.{union_is}

pub returns : goal.returns
returns c = rw (← c.self.view_is, ← c.other.view_is) (union_is c.self.inside.lanes c.other.inside.lanes c.self.told c.other.told)
