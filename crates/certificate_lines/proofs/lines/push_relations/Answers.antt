use Rattle.std.proofs.Common.{◌≡◌, ◌∙◌, true, map, take}
use Rattle.domain.specs.Facts.{Relation}
use Rattle.domain.specs.RelationsInCode.{relation_of}
use Rattle.certificate_lines.specs.Lines.{SumIs}
use Rattle.certificate_lines.specs.LineOf.{is_relation}
use Rattle.certificate_lines.proofs.SumDetailLemmas.{each_at}
use Rattle.certificate_lines.proofs.lines.push_relations.Goals as goal

pub push_relation-requires : goal.push_relation-requires
push_relation-requires g c =
    each_at (λ (x : Relation). is_relation x.sum ≡ true) relation_of c.args.relations.now c.loop-relation.relation-index c.relation-item.result c.loop-relation-test.true c.relation-item.is c.requires

pub returns-in_err-push_relation-clause-front : goal.returns-in_err-push_relation-clause-front
returns-in_err-push_relation-clause-front g c =
    (map SumIs (map relation_of (take c.loop-relation.relation-index c.args.relations.now)), c.in_err-push_relation.ensures.same ∙ c.loop-relation.invariant)
