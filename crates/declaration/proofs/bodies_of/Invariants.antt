use Rattle.std.proofs.Common.{◌≡◌, ◌<◌, ℕ, drop}
use Rattle.std.specs.Prelude.{◌||◌}
use Rattle.wordset.specs.Lanes.{words}
use Rattle.declaration.specs.DeclarationInCode.{in_routines}
use Rattle.declaration.proofs.bodies_of.Given as goal

-- what is gathered and the bodies that are left are all bodies
abbrev pub invariant-loop-routine : goal.invariant-loop-routine
invariant-loop-routine l = (a : ℕ) → a < 4096 →
    (words l.cells a || in_routines (drop l.routine-index l.routines) a) ≡ (words l.main a || in_routines l.routines a)
