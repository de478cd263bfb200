use Rattle.std.proofs.Common.{◌≡◌, ◌<◌, ℕ, false}
use Rattle.declaration.specs.DeclarationInCode.{meaning}
use Rattle.diagnostics.proofs.verdicts.verdict.is_skipping.Given as goal

-- no offset so far is one of these
abbrev pub invariant-loop-offset : goal.invariant-loop-offset
invariant-loop-offset g l = (o : ℕ) → 7 < o → o < l.offset → (meaning l.declaration).offset l.entry o ≡ false
