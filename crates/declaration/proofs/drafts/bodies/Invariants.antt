use Rattle.std.proofs.Common.{take}
use Rattle.declaration.specs.Drafts.{Counts, kept_bodies}
use Rattle.declaration.proofs.drafts.bodies.Given as goal

-- main's body and those of the routines so far
abbrev pub invariant-loop-routine : goal.invariant-loop-routine
invariant-loop-routine l = Counts l.bodies (kept_bodies l.main (take l.routine-index l.routines))
