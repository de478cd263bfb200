use Rattle.std.proofs.Common.{ℕ, ◌<◌}
use Rattle.declaration.specs.DeclarationInCode.{meaning}
use Rattle.search_commands.specs.Adding.{AddsToCell}
use Rattle.search_commands.proofs.adding.adds_only.Given as goal

abbrev pub invariant-loop-index : goal.invariant-loop-index
invariant-loop-index g l = (a : ℕ) → a < l.index → AddsToCell (meaning l.given) (meaning l.proposed) (meaning l.more) a
