use Rattle.wordset.proofs.WordSet.words.Goals as goal
use Rattle.std.proofs.Common.{sym}
use Rattle.wordset.proofs.LaneBits.{words_at}

pub returns : goal.returns
returns c = λ i j h g. rw (← c.self.view_is) (sym (words_at c.self.inside.lanes i j h g))
