use Rattle.std.proofs.Common.{◌∙◌, sym}
use Rattle.pal_text.proofs.Alternate.{signed}
use Rattle.pal_text.proofs.grammar.expression.Goals as goal

pub returns-in-len1-up : goal.returns-in-len1-up
returns-in-len1-up c = c.terms.ensures ∙ signed c.args.tokens.now _ c.in-len1-up.len_at_least (sym c.sign.ensures ∙ c.if-sign.true)
