use Rattle.std.proofs.Common.{◌≡◌, length}
use Rattle.pal_acts.specs.Words.{marks, marks_after}
use Rattle.pal_acts.proofs.words.marks_of.Given as goal

abbrev pub invariant-loop-found : goal.invariant-loop-found
invariant-loop-found l = marks_after l.found.indirect l.found.zero l.found.address.now ≡ marks l.joins

abbrev pub decreases-loop-found : goal.decreases-loop-found
decreases-loop-found l = length l.found.address.now
