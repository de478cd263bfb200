use Rattle.std.proofs.Common.{◌∙◌, sym}
use Rattle.wordset.specs.Lanes.{words}
use Rattle.domain.specs.RelationsInCode.{relation_of}
use Rattle.domain.proofs.JoinedLemmas.{passed_over, taken_too}
use Rattle.domain.proofs.relations.Relations.add_if_outside.Goals as goal

pub returns-then-speaks_of-clause-relations : goal.returns-then-speaks_of-clause-relations
returns-then-speaks_of-clause-relations g c = λ f h. h ∙ passed_over (words c.args.written.now) (relation_of c.args.relation.now) f (sym c.speaks_of.ensures ∙ c.if-speaks_of.true)

pub returns-clause-relations : goal.returns-clause-relations
returns-clause-relations g c = λ f h. c.add_copy.ensures.relations f h ∙ taken_too (words c.args.written.now) (relation_of c.args.relation.now) f (sym c.speaks_of.ensures ∙ c.if-speaks_of.false)
