use Rattle.std.proofs.Common.{◌<◌, ◌++◌, List, length, ap, ◌∙◌, arith}
use Rattle.domain.specs.Facts.{Relation}
use Rattle.domain.specs.RelationsInCode.{relation_of}
use Rattle.domain.specs.FactInCode.{fact_in_code}
use Rattle.transfer.proofs.EachRelation.{append_nothing}
use Rattle.transfer.proofs.RowsLemmas.{moved_piece, told_on, all_told}
use Rattle.transfer.proofs.additions.push_equations_moved.Goals as goal

pub loop-relation-preserved : goal.loop-relation-preserved
loop-relation-preserved g c =
    let inside : c.loop-relation.relation-index < length c.args.relations.now = c.loop-relation-test.true in (
      told_on relation_of (moved_piece c.args.word) c.args.relations.now c.loop-relation.relation-index c.relation-item.result
          (fact_in_code c.loop-relation.after) (fact_in_code c.push_equation_moved.new.after) inside c.relation-item.is
          (c.push_equation_moved.ensures.fact ∙ ap (λ (rs : List Relation). record (fact_in_code c.loop-relation.after) { relations = (fact_in_code c.loop-relation.after).relations ++ rs })
          (append_nothing (moved_piece c.args.word (relation_of c.relation-item.result))))
          ∙ c.loop-relation.invariant.0,
      c.push_equation_moved.ensures.cells ∙ c.loop-relation.invariant.1,
      omega (arith, c.push_equation_moved.ensures.more, c.loop-relation.invariant.2),
    )

pub returns-clause-fact : goal.returns-clause-fact
returns-clause-fact g c =
    all_told relation_of (moved_piece c.args.word) c.args.relations.now c.loop-relation.relation-index
    (fact_in_code c.loop-relation.after) _ c.loop-relation-test.false c.loop-relation.invariant.0
