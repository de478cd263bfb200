use Rattle.std.proofs.Common.{ℕ, ◌≡◌, ◌<◌, true}
use Rattle.declaration.specs.DeclarationInCode.{meaning}
use Rattle.proposer.proofs.width.keeps_offsets.Given as goal

abbrev pub invariant-loop-index : goal.invariant-loop-index
invariant-loop-index g l = (o : ℕ) → o < l.index → (meaning l.given).offset l.entry o ≡ true → (meaning l.more).offset l.entry o ≡ true
