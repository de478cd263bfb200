use Rattle.std.proofs.Common.{ℕ, ◌≡◌, ◌<◌, true}
use Rattle.std.specs.Prelude.{◌||◌}
use Rattle.declaration.specs.DeclarationInCode.{meaning}
use Rattle.search_commands.proofs.adding.offsets_are_known.Given as goal

abbrev pub invariant-loop-index : goal.invariant-loop-index
invariant-loop-index g l =
    (o : ℕ) → o < l.index → (meaning l.more).offset l.entry o ≡ true → (meaning l.given).offset l.entry o || (meaning l.proposed).offset l.entry o ≡ true
