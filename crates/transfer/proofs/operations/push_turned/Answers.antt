use Rattle.std.proofs.Common.{◌++◌, [], ◌∷◌, List, sym, ap, ◌∙◌}
use Rattle.domain.specs.Facts.{Relation}
use Rattle.domain.specs.Adding.{is_kept}
use Rattle.domain.specs.RelationsInCode.{relation_of}
use Rattle.domain.specs.FactInCode.{fact_in_code, rules_of}
use Rattle.transfer.specs.Additions.{turned}
use Rattle.transfer.specs.Shaped.{if_stays}
use Rattle.transfer.proofs.EachRelation.{append_nothing}
use Rattle.transfer.proofs.RowsLemmas.{kept_none, kept_if}
use Rattle.transfer.proofs.operations.push_turned.Goals as goal

pub returns-then-not-turn-clause-fact : goal.returns-then-not-turn-clause-fact
returns-then-not-turn-clause-fact g c =
    ap (λ (rs : List Relation). record (fact_in_code c.args.after.now) { relations = rs }) (sym (append_nothing (fact_in_code c.args.after.now).relations))
    ∙ ap (λ (rs : List Relation). record (fact_in_code c.args.after.now) { relations = (fact_in_code c.args.after.now).relations ++ rs })
    (kept_none (λ r. is_kept (rules_of c.args.rules.now) r.sum r.set) c.turn.result (relation_of c.turn.new.relation) _ c.if-not-turn.true
    (c.turn.ensures ∙ ap (λ (r : Relation). turned c.args.word (r ∷ [])) c.copy_from.ensures))

pub returns-then-is_kept-clause-fact : goal.returns-then-is_kept-clause-fact
returns-then-is_kept-clause-fact g c =
    c.push_relation_copy.ensures.fact
    ∙ ap (λ (rs : List Relation). record (fact_in_code c.args.after.now) { relations = (fact_in_code c.args.after.now).relations ++ rs })
    (sym (ap (λ b. if_stays b (relation_of c.turn.new.relation)) c.if-is_kept.true)
    ∙ kept_if (λ r. is_kept (rules_of c.args.rules.now) r.sum r.set) c.turn.result c.is_kept.result (relation_of c.turn.new.relation) _ c.if-not-turn.false
    (c.turn.ensures ∙ ap (λ (r : Relation). turned c.args.word (r ∷ [])) c.copy_from.ensures) c.is_kept.ensures)

pub returns-else-is_kept-clause-fact : goal.returns-else-is_kept-clause-fact
returns-else-is_kept-clause-fact g c =
    ap (λ (rs : List Relation). record (fact_in_code c.args.after.now) { relations = rs }) (sym (append_nothing (fact_in_code c.args.after.now).relations))
    ∙ ap (λ (rs : List Relation). record (fact_in_code c.args.after.now) { relations = (fact_in_code c.args.after.now).relations ++ rs })
    (sym (ap (λ b. if_stays b (relation_of c.turn.new.relation)) c.if-is_kept.false)
    ∙ kept_if (λ r. is_kept (rules_of c.args.rules.now) r.sum r.set) c.turn.result c.is_kept.result (relation_of c.turn.new.relation) _ c.if-not-turn.false
    (c.turn.ensures ∙ ap (λ (r : Relation). turned c.args.word (r ∷ [])) c.copy_from.ensures) c.is_kept.ensures)
