use Rattle.std.proofs.Common.{◌≡◌, ◌≤◌, ◌+◌, length}
use Rattle.pal_text.specs.Reading.{shape}
use Rattle.pal_text.proofs.grammar.shape_of.Given as goal

abbrev pub invariant-loop-rest : goal.invariant-loop-rest
invariant-loop-rest l = (shape 0 l.tokens ≡ shape l.tags l.rest) × (l.tags + length l.rest ≤ length l.tokens)

abbrev pub decreases-loop-rest : goal.decreases-loop-rest
decreases-loop-rest l = length l.rest
