use Rattle.std.proofs.Common.{◌∙◌, sym}
use Rattle.pal_text.proofs.Alternate.{one_body, star_body, equals_body, nameless_body, unequal_body}
use Rattle.pal_text.proofs.grammar.body_of.Goals as goal
use Rattle.pal_text.proofs.grammar.body_of.Goals.{then-named+else-equals, else-named}

pub returns-in-len1 : goal.returns-in-len1
returns-in-len1 c = c.single_form.ensures ∙ one_body c.args.tokens.now _ c.in-len1.len_at_least c.in-len1.len_below

pub returns-in-len1-up : goal.returns-in-len1-up
returns-in-len1-up c = c.if_expression.ensures ∙ star_body c.args.tokens.now _ c.in-len1-up.len_at_least (sym c.star.ensures ∙ c.if-star.true)

pub returns-in-len2-up : goal.returns-in-len2-up
returns-in-len2-up c =
    c.if_expression-in-len2-up.ensures
    ∙ equals_body c.args.tokens.now _ _ c.in-len1-up.len_at_least (sym c.star.ensures ∙ c.if-star.false) (sym c.named.ensures ∙ c.if-named.true) (sym c.equals.ensures ∙ c.if-equals.true)

pub returns-in_default : goal.returns-in_default
returns-in_default c = c.if_expression-in_default.ensures ∙ elim c.if-named.branch [
  | then-named+else-equals w ↦ unequal_body c.args.tokens.now _ _ c.in-len1-up.len_at_least (sym c.star.ensures ∙ c.if-star.false) (sym c.named.ensures ∙ w.if-named.true) (sym w.equals.ensures ∙ w.if-equals.false)
  | else-named w ↦ nameless_body c.args.tokens.now _ c.in-len1-up.len_at_least (sym c.star.ensures ∙ c.if-star.false) (sym c.named.ensures ∙ w.if-named.false)
]
