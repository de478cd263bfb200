use Rattle.std.proofs.Common.{◌∙◌, rules, sym}
use Rattle.pal_text.proofs.Readings.{strip}
use Rattle.pal_text.proofs.grammar.shape_of.Goals as goal

pub loop-rest-preserved : goal.loop-rest-preserved
loop-rest-preserved c = (c.loop-rest.invariant.0 ∙ strip c.loop-rest.rest.now c.loop-rest.tags _ _ c.in-len2-up.len_at_least (sym c.tag.ensures ∙ c.if-not-tag.false), search rules)
