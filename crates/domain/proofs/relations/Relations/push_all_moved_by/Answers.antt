use Rattle.std.proofs.Common.{◌≡◌, ◌+◌, ◌<◌, length, ap, ◌∙◌, arith, length-append}
use Rattle.std.specs.Prelude.{Some}
use Rattle.wordset.specs.Words.{one}
use Rattle.domain.specs.Moves.{moved_relation}
use Rattle.domain.specs.RelationsInCode.{relation_of, relations_of}
use Rattle.domain.proofs.BriefLemmas.{only_of_one}
use Rattle.domain.proofs.RelationLemmas.{moved_on}
use Rattle.domain.proofs.relations.Relations.push_all_moved_by.Goals as goal

pub loop-relation-preserved : goal.loop-relation-preserved
loop-relation-preserved g c =
    let small : c.args.by < 4096 = omega (arith, c.index-index.ensures.same, c.index-index.ensures.small) in
    let inside : c.loop-relation.relation-index < length c.args.others.now = c.loop-relation-test.true in
    let more : length (relations_of c.push_moved_by.new.self) ≡ length (relations_of c.loop-relation.self) + 1 =
    ap length c.push_moved_by.ensures ∙ length-append (relations_of c.loop-relation.self) (moved_relation c.args.cell (one c.args.by) (Some c.args.by) (relation_of c.relation-item.result)) in (
      moved_on relation_of c.args.cell c.args.by c.args.others.now c.loop-relation.relation-index c.relation-item.result (relations_of c.loop-relation.self) (relations_of c.push_moved_by.new.self)
          inside c.relation-item.is (only_of_one c.args.by small) c.push_moved_by.ensures ∙ c.loop-relation.invariant.0,
      omega (arith, more, c.loop-relation.invariant.1),
    )
