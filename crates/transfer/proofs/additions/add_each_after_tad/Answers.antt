use Rattle.std.proofs.Common.{◌<◌, ◌≤◌, length, ap, ◌∙◌, arith}
use Rattle.wordset.specs.Words.{Words}
use Rattle.wordset.specs.Lanes.{words}
use Rattle.domain.specs.Facts.{OfSums}
use Rattle.domain.specs.Adding.{adding_all}
use Rattle.domain.specs.InCode.{sum_of}
use Rattle.domain.specs.RelationsInCode.{relation_of}
use Rattle.domain.specs.FactInCode.{fact_in_code}
use Rattle.transfer.specs.Additions.{after_tad}
use Rattle.transfer.specs.Shaped.{term_if, told}
use Rattle.transfer.proofs.EachRelation.{added_on, all_added_on, few_terms}
use Rattle.transfer.proofs.additions.add_each_after_tad.Goals as goal

pub add_after_tad-requires : goal.add_after_tad-requires
add_after_tad-requires g c =
    let few : length (relation_of c.relation-item.result).sum ≤ 3 = few_terms relation_of c.args.relations.now c.loop-relation.relation-index c.relation-item.result c.loop-relation-test.true c.relation-item.is c.requires.terms in
    omega (arith, few, c.loop-relation.invariant.1, c.loop-relation.invariant.2, c.loop-relation-test.true, c.requires.cells, c.requires.room)

pub loop-relation-preserved : goal.loop-relation-preserved
loop-relation-preserved g c =
    let inside : c.loop-relation.relation-index < length c.args.relations.now = c.loop-relation-test.true in (
      added_on OfSums relation_of (after_tad (words c.args.ac.now) (words c.args.operand.now) (term_if c.args.term.now)) c.args.relations.now c.loop-relation.relation-index c.relation-item.result
          (fact_in_code c.loop-relation.after) (fact_in_code c.add_after_tad.new.after) inside c.relation-item.is
          (c.add_after_tad.ensures.fact ∙ ap (λ (s : Words). adding_all OfSums (after_tad (words c.args.ac.now) (words c.args.operand.now) (term_if c.args.term.now) (told (sum_of c.relation-item.result.sum) s)) (fact_in_code c.loop-relation.after)) c.put.ensures)
          ∙ c.loop-relation.invariant.0,
      omega (arith, c.add_after_tad.ensures.cells, c.loop-relation.invariant.1),
      omega (arith, c.add_after_tad.ensures.more, c.loop-relation.invariant.2),
    )

pub returns-clause-fact : goal.returns-clause-fact
returns-clause-fact g c =
    all_added_on OfSums relation_of (after_tad (words c.args.ac.now) (words c.args.operand.now) (term_if c.args.term.now)) c.args.relations.now c.loop-relation.relation-index
    (fact_in_code c.loop-relation.after) _ c.loop-relation-test.false c.loop-relation.invariant.0
