use Rattle.std.proofs.Common.{◌≡◌, length}
use Rattle.pal_asm.specs.SourceInCode.{after_tags}
use Rattle.pal_asm.proofs.statement.without_tags.Given as goal

abbrev pub invariant-loop-rest : goal.invariant-loop-rest
invariant-loop-rest l = after_tags l.count l.tokens ≡ after_tags l.left l.rest

abbrev pub decreases-loop-rest : goal.decreases-loop-rest
decreases-loop-rest l = length l.rest
