use Rattle.std.proofs.Common.{◌≤◌, [], ◌∷◌, length, map, refl, ◌∙◌, ap, arith}
use Rattle.wordset.specs.Lanes.{words}
use Rattle.domain.specs.Facts.{Fact, OfSums}
use Rattle.domain.specs.Adding.{adding_all}
use Rattle.domain.specs.Moves.{outside}
use Rattle.domain.specs.RelationsInCode.{relation_of}
use Rattle.domain.proofs.JoinedLemmas.{outside_on, outside_end}
use Rattle.domain.proofs.relations.Relations.add_outside.Goals as goal

pub loop-relation-init : goal.loop-relation-init
loop-relation-init g c = (λ f h. (f, h, refl), omega arith)

pub loop-relation-preserved : goal.loop-relation-preserved
loop-relation-preserved g c = (
  (λ f h.
      let before = c.loop-relation.invariant.0 f h in (
        adding_all OfSums (outside (words c.args.written.now) (relation_of c.relation-item.result ∷ [])) before.0,
        c.add_if_outside.ensures.relations before.0 before.1,
        outside_on relation_of (words c.args.written.now) c.args.others.now c.loop-relation.relation-index c.relation-item.result before.0
            (adding_all OfSums (outside (words c.args.written.now) (map relation_of c.args.others.now)) f) c.loop-relation-test.true c.relation-item.is before.2,
      )),
  omega (arith, c.add_if_outside.ensures.few, c.loop-relation.invariant.1),
)

pub returns : goal.returns
returns g c = λ f h.
    let last = c.loop-relation.invariant.0 f h in
    let past : length c.args.others.now ≤ c.loop-relation.relation-index = omega (arith, c.loop-relation-test.false) in
    last.1 ∙ ap (λ (x : Fact). x.relations)
    (outside_end relation_of (words c.args.written.now) c.args.others.now c.loop-relation.relation-index last.0 (adding_all OfSums (outside (words c.args.written.now) (map relation_of c.args.others.now)) f) past last.2)
