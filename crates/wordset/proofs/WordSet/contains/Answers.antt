use Rattle.wordset.proofs.WordSet.contains.Goals as goal
use Rattle.wordset.proofs.LaneBits.{lane_bit}

pub returns : goal.returns
returns c = rw (← c.self.view_is, ← c.index-at.ensures.same) (lane_bit c.self.inside.lanes c.index-at.result c.index-at.ensures.small)
