use Rattle.std.proofs.Common.{◌≡◌, drop}
use Rattle.pal_asm.specs.Numbers.{base}
use Rattle.pal_asm.specs.Expressions.{expression, joins}
use Rattle.pal_asm.proofs.Terms.{with_front}
use Rattle.pal_asm.proofs.expression.read_expression.Given as goal

abbrev pub invariant-loop-token : goal.invariant-loop-token
invariant-loop-token g l =
    with_front l.joins.items (joins (base l.radix) l.source l.joined_by (drop l.token-index l.tokens)) ≡ expression (base l.radix) l.source l.tokens
