use Rattle.std.proofs.Common.{take}
use Rattle.declaration.specs.Drafts.{Counts, kept_entries}
use Rattle.declaration.proofs.drafts.entries.Given as goal

-- the entries of the routines so far
abbrev pub invariant-loop-routine : goal.invariant-loop-routine
invariant-loop-routine l = Counts l.entries (kept_entries (take l.routine-index l.routines))
