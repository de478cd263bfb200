use Rattle.std.proofs.Common.{arith}
use Rattle.peripherals.specs.Loading.{image_of}
use Rattle.domain.specs.Facts.{OfSums}
use Rattle.domain.specs.Adding.{adding_all}
use Rattle.domain.specs.Narrowing.{parts_of}
use Rattle.domain.specs.RelationsInCode.{relation_of}
use Rattle.domain.specs.FactInCode.{fact_in_code, all_parts}
use Rattle.domain.proofs.PartLemmas.{parts_on}
use Rattle.std.proofs.Common.{map}
use Rattle.domain.proofs.sum_fact.SumFact.add_all_parts.Goals as goal

pub loop-relation-preserved : goal.loop-relation-preserved
loop-relation-preserved g c = (
  parts_on relation_of (λ r. parts_of (image_of c.args.image.now) (fact_in_code c.args.fact.now) r.sum r.set) c.args.relations.now c.loop-relation.relation-index c.relation-item.result
      (fact_in_code c.loop-relation.self) (fact_in_code c.add_parts.new.self) (adding_all OfSums (all_parts (image_of c.args.image.now) (fact_in_code c.args.fact.now) (map relation_of c.args.relations.now)) (fact_in_code c.args.self.now))
      c.loop-relation-test.true c.relation-item.is c.add_parts.ensures.fact c.loop-relation.invariant.0,
  omega (arith, c.add_parts.ensures.cells, c.loop-relation.invariant.1),
  omega (arith, c.add_parts.ensures.relations, c.loop-relation.invariant.2),
)
