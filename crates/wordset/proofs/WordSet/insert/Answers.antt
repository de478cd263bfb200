use Rattle.wordset.proofs.WordSet.insert.Goals as goal
use Rattle.wordset.proofs.LaneBits.{AreLanes-put_in, insert_is}

pub invariant_of-self : goal.invariant_of-self
invariant_of-self c = AreLanes-put_in c.self.inside.lanes c.index-at.result c.index-at.ensures.small c.self.invariant

pub returns : goal.returns
returns c = rw (← c.self.view_is, ← c.index-at.ensures.same) (insert_is c.self.inside.lanes c.index-at.result c.index-at.ensures.small c.self.told)
