use Rattle.std.proofs.Common.{arith}
use Rattle.facts.proofs.ShowingLemmas.{among_at, among_behind}
use Rattle.transfer.proofs.EntailLemmas.{not_both}
use Rattle.domain.specs.RelationsInCode.{relation_of}
use Rattle.facts.proofs.entailment.is_at.Goals as goal

pub returns-clause-found : goal.returns-clause-found
returns-clause-found c = λ t. among_at relation_of (relation_of c.args.relation.now) c.args.relations.now c.args.at c.index-relations-at.result (omega (arith, c.if-at-relations.false)) c.index-relations-at.is (c.is_same_relation.ensures.0 t)

pub returns-clause-other : goal.returns-clause-other
returns-clause-other c = λ e h. among_behind relation_of (relation_of c.args.relation.now) c.args.relations.now c.args.at c.index-relations-at.result (omega (arith, c.if-at-relations.false)) c.index-relations-at.is (not_both _ e c.is_same_relation.ensures.1) h
