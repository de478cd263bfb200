use Rattle.std.proofs.Common.{◌∙◌, sym}
use Rattle.pal_text.proofs.Alternate.{terms_on, no_term, no_joiner, one_term, none_are}
use Rattle.pal_text.proofs.grammar.terms.Goals as goal
use Rattle.pal_text.proofs.grammar.terms.Goals.{then-not-term-via-then-not-term, then-not-term-via-else-not-term+then-not-joiner}

pub loop-rest-preserved : goal.loop-rest-preserved
loop-rest-preserved c =
    c.loop-rest.invariant ∙ terms_on c.loop-rest.rest.now _ _ c.in-len2-up.len_at_least (sym c.term.ensures ∙ c.if-not-term.false) (sym c.joiner.ensures ∙ c.if-not-joiner.false)

pub returns-then-not-term : goal.returns-then-not-term
returns-then-not-term c = elim c.then-not-term.branch [
  | then-not-term-via-then-not-term w ↦ no_term c.loop-rest.rest.now _ c.in-len2-up.len_at_least (sym c.term.ensures ∙ w.if-not-term.true) ∙ sym c.loop-rest.invariant
  | then-not-term-via-else-not-term+then-not-joiner w ↦
      no_joiner c.loop-rest.rest.now _ _ c.in-len2-up.len_at_least (sym c.term.ensures ∙ w.if-not-term.false) (sym w.joiner.ensures ∙ w.if-not-joiner.true) ∙ sym c.loop-rest.invariant
]

pub returns-in-len1 : goal.returns-in-len1
returns-in-len1 c = c.term-in-len1.ensures ∙ one_term c.loop-rest.rest.now _ c.in-len1.len_at_least c.in-len1.len_below ∙ sym c.loop-rest.invariant

pub returns-in_default-rest : goal.returns-in_default-rest
returns-in_default-rest c = none_are c.loop-rest.rest.now c.in_default-rest.len_below ∙ sym c.loop-rest.invariant
