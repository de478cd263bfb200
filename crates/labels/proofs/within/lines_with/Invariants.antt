use Rattle.labels.proofs.Withins.{StandsBefore}
use Rattle.labels.proofs.within.lines_with.Given as goal

abbrev pub invariant-loop-at : goal.invariant-loop-at
invariant-loop-at g l = StandsBefore l.words l.parts l.at l.text.items
