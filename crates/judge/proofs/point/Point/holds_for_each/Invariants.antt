use Rattle.wordset.specs.Lanes.{words}
use Rattle.wordset.proofs.IterLemmas.{Passed}
use Rattle.judge.specs.Points.{HoldsHere}
use Rattle.judge.proofs.point.Point.holds_for_each.Given as goal

abbrev pub invariant-loop-word : goal.invariant-loop-word
invariant-loop-word g l =
    Passed (HoldsHere g.C.Claims.claims l.self l.condition) (words l.possible) l.word-iterator
