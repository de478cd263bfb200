use Rattle.std.proofs.Common.{◌∙◌}
use Rattle.wordset.specs.Lanes.{words}
use Rattle.wordset.proofs.WordSet.ors.Goals as goal
use Rattle.wordset.proofs.Complements.{ors_swap}

pub returns-else-count : goal.returns-else-count
returns-else-count c = c.ors_by_word-else-count.ensures ∙ ors_swap (words c.args.other.now) (words c.args.self.now)
