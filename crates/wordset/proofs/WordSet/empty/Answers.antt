use Rattle.wordset.proofs.WordSet.empty.Goals as goal
use Rattle.wordset.proofs.LaneBits.{empty_is, filled}
use Rattle.std.proofs.Common.{lit<}

pub invariant_of-result : goal.invariant_of-result
invariant_of-result c = filled 0 (lit< tt)

pub returns : goal.returns
returns c = empty_is
