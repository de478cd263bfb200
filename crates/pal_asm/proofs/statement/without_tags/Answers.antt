use Rattle.std.proofs.Common.{◌∙◌}
use Rattle.pal_asm.proofs.Spoken.{tag_off}
use Rattle.pal_asm.proofs.statement.without_tags.Goals as goal

pub loop-rest-preserved : goal.loop-rest-preserved
loop-rest-preserved c = c.loop-rest.invariant ∙ tag_off c.loop-rest.rest.now c.loop-rest.left c.in-len2-up.len_at_least c.if-left-eq0.false
