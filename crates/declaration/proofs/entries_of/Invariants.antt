use Rattle.std.proofs.Common.{◌≡◌, ◌<◌, ℕ, drop}
use Rattle.std.specs.Prelude.{◌||◌}
use Rattle.wordset.specs.Lanes.{words}
use Rattle.declaration.specs.DeclarationInCode.{entries}
use Rattle.declaration.proofs.entries_of.Given as goal

-- what is gathered and the entries that are left are all entries
abbrev pub invariant-loop-routine : goal.invariant-loop-routine
invariant-loop-routine l = (a : ℕ) → a < 4096 →
    (words l.cells a || entries (drop l.routine-index l.routines) a) ≡ entries l.routines a
