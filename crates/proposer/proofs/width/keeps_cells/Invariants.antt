use Rattle.std.proofs.Common.{ℕ, ◌<◌}
use Rattle.declaration.specs.DeclarationInCode.{meaning}
use Rattle.proposer.specs.Widths.{KeepsCell}
use Rattle.proposer.proofs.width.keeps_cells.Given as goal

abbrev pub invariant-loop-index : goal.invariant-loop-index
invariant-loop-index g l = (a : ℕ) → a < l.index → KeepsCell (meaning l.given) (meaning l.more) a
