use Rattle.std.proofs.Common.{◌∙◌, length}
use Rattle.pal_text.specs.Names.{IsWithin}
use Rattle.pal_asm.proofs.Spoken.{tag_kept, rest_within}
use Rattle.pal_asm.proofs.statement.keep_tags.Goals as goal

pub loop-rest-preserved : goal.loop-rest-preserved
loop-rest-preserved g c = (
  tag_kept c.args.place c.args.source.now c.loop-rest.rest.now c.loop-rest.left _ c.tag_of.result c.loop-rest.acts c.keep.new.self c.in-len2-up.len_at_least c.if-left-eq0.false c.tag_of.ensures c.in_ok-keep.ensures.kept ∙ c.loop-rest.invariant.0,
  rest_within (IsWithin (length c.args.source.now)) c.loop-rest.rest.now c.loop-rest.invariant.1,
)
