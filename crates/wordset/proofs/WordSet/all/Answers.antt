use Rattle.wordset.proofs.WordSet.all.Goals as goal
use Rattle.wordset.proofs.LaneBits.{all_is, filled}
use Rattle.std.proofs.Common.{lit<}

pub invariant_of-result : goal.invariant_of-result
invariant_of-result c = filled 18446744073709551615 (lit< tt)

pub returns : goal.returns
returns c = all_is
