use Rattle.std.proofs.Common.{◌<◌, ◌≤◌, ◌++◌, [], ◌∷◌, List, length, map, ap, sym, ◌∙◌, arith}
use Rattle.std.specs.Prelude.{filter}
use Rattle.domain.specs.Facts.{Relation}
use Rattle.domain.specs.Adding.{is_kept}
use Rattle.domain.specs.RelationsInCode.{relation_of}
use Rattle.domain.specs.FactInCode.{fact_in_code, rules_of}
use Rattle.transfer.specs.Additions.{turned}
use Rattle.transfer.proofs.EachRelation.{few_terms}
use Rattle.transfer.proofs.RowsLemmas.{told_on, all_told, kept_turned}
use Rattle.transfer.proofs.operations.push_each_turned.Goals as goal

pub push_turned-requires : goal.push_turned-requires
push_turned-requires g c =
    let few : length (relation_of c.relation-item.result).sum ≤ 3 = few_terms relation_of c.args.relations.now c.loop-relation.relation-index c.relation-item.result c.loop-relation-test.true c.relation-item.is c.requires.terms in
    omega (arith, few, c.loop-relation.invariant.2, c.loop-relation-test.true, c.requires.room)

pub loop-relation-preserved : goal.loop-relation-preserved
loop-relation-preserved g c =
    let inside : c.loop-relation.relation-index < length c.args.relations.now = c.loop-relation-test.true in (
      told_on relation_of (λ r. filter (λ r. is_kept (rules_of c.args.rules.now) r.sum r.set) (turned c.args.word (r ∷ []))) c.args.relations.now c.loop-relation.relation-index c.relation-item.result
          (fact_in_code c.loop-relation.after) (fact_in_code c.push_turned.new.after) inside c.relation-item.is c.push_turned.ensures.fact
          ∙ c.loop-relation.invariant.0,
      c.push_turned.ensures.cells ∙ c.loop-relation.invariant.1,
      omega (arith, c.push_turned.ensures.more, c.loop-relation.invariant.2),
    )

pub returns-clause-fact : goal.returns-clause-fact
returns-clause-fact g c =
    all_told relation_of (λ r. filter (λ r. is_kept (rules_of c.args.rules.now) r.sum r.set) (turned c.args.word (r ∷ []))) c.args.relations.now c.loop-relation.relation-index
    (fact_in_code c.loop-relation.after) _ c.loop-relation-test.false c.loop-relation.invariant.0
    ∙ ap (λ (rs : List Relation). record (fact_in_code c.args.after.now) { relations = (fact_in_code c.args.after.now).relations ++ rs })
    (sym (kept_turned (λ r. is_kept (rules_of c.args.rules.now) r.sum r.set) c.args.word (map relation_of c.args.relations.now)))
