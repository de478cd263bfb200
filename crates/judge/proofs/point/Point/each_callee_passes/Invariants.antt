use Rattle.wordset.specs.Lanes.{words}
use Rattle.wordset.proofs.IterLemmas.{Passed}
use Rattle.judge.specs.Callees.{HoldsOfCallee}
use Rattle.judge.specs.Points.{case_of, fact_asked}
use Rattle.judge.proofs.point.Point.each_callee_passes.Given as goal

abbrev pub invariant-loop-entry : goal.invariant-loop-entry
invariant-loop-entry g l =
    Passed (HoldsOfCallee (case_of g.C.Claims.claims l.self) l.condition l.self.place.routine l.self.at (fact_asked l.self)) (words l.initial.entry-iterator.set.now) l.entry-iterator
