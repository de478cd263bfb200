use Rattle.std.proofs.Common.{◌∙◌, sym, ap}
use Rattle.pal_asm.specs.Numbers.{base}
use Rattle.pal_asm.specs.Expressions.{expression}
use Rattle.pal_asm.proofs.Terms.{with_front, with_none, after_joiner, after_term, bad_left, all_left}
use Rattle.pal_asm.proofs.expression.read_expression.Goals as goal
use Rattle.pal_asm.proofs.expression.read_expression.Goals.{then-joins_terms, else-joins_terms+in-Ok+in_ok-push-in-Ok}

pub loop-token-init : goal.loop-token-init
loop-token-init g c =
    let e = expression (base c.args.radix) c.args.source.now c.args.tokens.now in
    ap (λ l. with_front l e) c.clear.ensures.items ∙ with_none e

pub loop-token-preserved : goal.loop-token-preserved
loop-token-preserved g c = elim c.if-joins_terms.branch [
  | then-joins_terms w ↦
      after_joiner (base c.args.radix) c.args.source.now c.loop-token.joins.items c.if-joins_terms.joins.items c.loop-token.joined_by c.if-joins_terms.joined_by c.args.tokens.now c.loop-token.token-index _ _
      c.loop-token-test.true c.loop-token.invariant (sym c.joins_terms.ensures ∙ w.if-joins_terms.true) (ap (λ v. v.items) w.joins-is) (w.joined_by-is ∙ w.sign-joined_by.ensures)
  | else-joins_terms+in-Ok+in_ok-push-in-Ok w ↦
      after_term (base c.args.radix) c.args.source.now c.loop-token.joins.items c.if-joins_terms.joins.items c.loop-token.joined_by c.if-joins_terms.joined_by c.args.tokens.now c.loop-token.token-index _ _
      c.loop-token-test.true c.loop-token.invariant w.in-Ok.term (sym c.joins_terms.ensures ∙ w.if-joins_terms.false) (sym w.term_of.ensures ∙ w.in-Ok.is)
      (ap (λ v. v.items) w.joins-is ∙ w.in_ok-push-in-Ok.ensures.items) w.joined_by-is
]

pub returns-in-Err : goal.returns-in-Err
returns-in-Err g c =
    sym (bad_left (base c.args.radix) c.args.source.now c.loop-token.joins.items c.loop-token.joined_by c.args.tokens.now c.loop-token.token-index _ c.loop-token-test.true c.in-Err.code (sym c.joins_terms.ensures ∙ c.if-joins_terms.false)
    (sym c.term_of.ensures ∙ c.in-Err.is))
    ∙ c.loop-token.invariant

pub returns : goal.returns
returns g c =
    sym (all_left (base c.args.radix) c.args.source.now c.loop-token.joins.items c.loop-token.joined_by c.args.tokens.now c.loop-token.token-index c.loop-token-test.false) ∙ c.loop-token.invariant
