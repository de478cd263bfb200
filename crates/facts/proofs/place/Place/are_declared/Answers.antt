use Rattle.wordset.proofs.IterLemmas.{one_fails}
use Rattle.facts.proofs.place.Place.are_declared.Goals as goal

pub returns-then-not-is_declared : goal.returns-then-not-is_declared
returns-then-not-is_declared g c = one_fails _ c.loop-cell.invariant c.in-Some.ensures.steps c.if-not-is_declared.true c.is_declared.ensures.1
