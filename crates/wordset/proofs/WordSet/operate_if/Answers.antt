use Rattle.std.proofs.Common.{ap}
use Rattle.wordset.proofs.WordSet.operate_if.Goals as goal

pub returns-else-chosen-clause-links : goal.returns-else-chosen-clause-links
returns-else-chosen-clause-links c = λ k. rw c.if-chosen.false (ap (λ t. t k) c.none.ensures)
