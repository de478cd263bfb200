use Rattle.std.proofs.Common.{refl}
use Rattle.domain.specs.Adding.{set_among}
use Rattle.domain.specs.InCode.{sum_of}
use Rattle.domain.specs.RelationsInCode.{relation_of}
use Rattle.domain.proofs.RelationLemmas.{all_kept}
use Rattle.domain.proofs.relations.Relation.keep_among.Goals as goal

pub returns : goal.returns
returns c = all_kept c.args.relations.now c.loop-relation.relation-index relation_of (λ rs. set_among (sum_of c.args.sum.now) rs) (λ v. refl) c.loop-relation.place c.args.place.now c.loop-relation-test.false c.loop-relation.invariant
