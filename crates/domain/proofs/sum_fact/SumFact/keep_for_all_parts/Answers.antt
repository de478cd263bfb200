use Rattle.std.proofs.Common.{◌∙◌, ap, refl, map, arith}
use Rattle.peripherals.specs.Loading.{image_of}
use Rattle.domain.specs.LocationsInCode.{location_of}
use Rattle.domain.specs.Facts.{Fact, OfSums}
use Rattle.domain.specs.Adding.{adding_all}
use Rattle.domain.specs.Narrowing.{parts_of}
use Rattle.domain.specs.RelationsInCode.{relation_of}
use Rattle.domain.specs.FactInCode.{fact_in_code, all_parts}
use Rattle.domain.proofs.PartLemmas.{parts_on}
use Rattle.domain.proofs.NameAskedLemmas.{none_left}
use Rattle.domain.proofs.sum_fact.SumFact.keep_for_all_parts.Goals as goal

pub loop-relation-init : goal.loop-relation-init
loop-relation-init g c = λ f h. (f, h, refl)

pub loop-relation-preserved : goal.loop-relation-preserved
loop-relation-preserved g c = λ f h.
    let before = c.loop-relation.invariant f h in (
      adding_all OfSums (parts_of (image_of c.args.image.now) (fact_in_code c.args.self.now) (relation_of c.relation-item.result).sum (relation_of c.relation-item.result).set) before.0,
      c.keep_for_parts.ensures before.0 before.1,
      parts_on relation_of (λ r. parts_of (image_of c.args.image.now) (fact_in_code c.args.self.now) r.sum r.set) c.args.relations.now c.loop-relation.relation-index c.relation-item.result before.0 _
          (adding_all OfSums (all_parts (image_of c.args.image.now) (fact_in_code c.args.self.now) (map relation_of c.args.relations.now)) f) c.loop-relation-test.true c.relation-item.is refl before.2,
    )

pub returns : goal.returns
returns g c = λ f h.
    let last = c.loop-relation.invariant f h in
    last.1 ∙ ap (λ (x : Fact). x.set (location_of c.args.name.now))
    (none_left relation_of (λ r. parts_of (image_of c.args.image.now) (fact_in_code c.args.self.now) r.sum r.set) c.args.relations.now c.loop-relation.relation-index last.0
    (adding_all OfSums (all_parts (image_of c.args.image.now) (fact_in_code c.args.self.now) (map relation_of c.args.relations.now)) f) (omega (arith, c.loop-relation-test.false)) last.2)
