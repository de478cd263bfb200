use Rattle.std.proofs.Common.{◌<◌, ◌≤◌, length, ◌∙◌, arith}
use Rattle.domain.specs.Facts.{OfEquations}
use Rattle.domain.specs.RelationsInCode.{relation_of}
use Rattle.domain.specs.FactInCode.{fact_in_code}
use Rattle.transfer.specs.Stores.{copied_for}
use Rattle.transfer.proofs.EachRelation.{added_on, all_added_on, few_terms}
use Rattle.transfer.proofs.stores.add_each_copied.Goals as goal

pub add_copied_for-requires : goal.add_copied_for-requires
add_copied_for-requires g c =
    let few : length (relation_of c.relation-item.result).sum ≤ 3 = few_terms relation_of c.args.relations.now c.loop-relation.relation-index c.relation-item.result c.loop-relation-test.true c.relation-item.is c.requires.terms in
    omega (arith, few, c.loop-relation.invariant.1, c.loop-relation.invariant.2, c.loop-relation-test.true, c.requires.cells, c.requires.room)

pub loop-relation-preserved : goal.loop-relation-preserved
loop-relation-preserved g c =
    let inside : c.loop-relation.relation-index < length c.args.relations.now = c.loop-relation-test.true in (
      added_on OfEquations relation_of (copied_for c.args.cell) c.args.relations.now c.loop-relation.relation-index c.relation-item.result
          (fact_in_code c.loop-relation.after) (fact_in_code c.add_copied_for.new.after) inside c.relation-item.is c.add_copied_for.ensures.fact
          ∙ c.loop-relation.invariant.0,
      omega (arith, c.add_copied_for.ensures.cells, c.loop-relation.invariant.1),
      omega (arith, c.add_copied_for.ensures.more, c.loop-relation.invariant.2),
    )

pub returns : goal.returns
returns g c =
    all_added_on OfEquations relation_of (copied_for c.args.cell) c.args.relations.now c.loop-relation.relation-index
    (fact_in_code c.loop-relation.after) _ c.loop-relation-test.false c.loop-relation.invariant.0
