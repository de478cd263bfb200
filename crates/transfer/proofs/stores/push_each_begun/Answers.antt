use Rattle.std.proofs.Common.{◌<◌, ◌++◌, List, length, map, ap, sym, ◌∙◌, arith}
use Rattle.wordset.specs.Links.{links_of}
use Rattle.domain.specs.Chains.{Chain, all_longer}
use Rattle.domain.specs.RelationsInCode.{relation_of}
use Rattle.domain.specs.ChainsInCode.{step_of, chain_of}
use Rattle.domain.specs.FactInCode.{fact_in_code}
use Rattle.transfer.specs.Stores.{begun_by}
use Rattle.transfer.specs.Shaped.{begun_beside}
use Rattle.transfer.proofs.RowsLemmas.{begun_on, all_begun_on, begun_each}
use Rattle.transfer.proofs.stores.push_each_begun.Goals as goal

pub loop-relation-preserved : goal.loop-relation-preserved
loop-relation-preserved g c =
    let inside : c.loop-relation.relation-index < length c.args.relations.now = c.loop-relation-test.true in (
      begun_on relation_of (λ r. all_longer (step_of c.args.step.now) (begun_beside (map chain_of c.args.chains.now) (begun_by (links_of c.args.links) r.sum r.set))) c.args.relations.now c.loop-relation.relation-index c.relation-item.result
          (fact_in_code c.loop-relation.after) (fact_in_code c.push_begun.new.after) inside c.relation-item.is c.push_begun.ensures.fact
          ∙ c.loop-relation.invariant.0,
      omega (arith, c.push_begun.ensures.more, c.loop-relation.invariant.1),
    )

pub returns : goal.returns
returns g c =
    all_begun_on relation_of (λ r. all_longer (step_of c.args.step.now) (begun_beside (map chain_of c.args.chains.now) (begun_by (links_of c.args.links) r.sum r.set))) c.args.relations.now c.loop-relation.relation-index
    (fact_in_code c.loop-relation.after) _ c.loop-relation-test.false c.loop-relation.invariant.0
    ∙ ap (λ (cs : List Chain). record (fact_in_code c.args.after.now) { chains = (fact_in_code c.args.after.now).chains ++ cs })
    (sym (begun_each (step_of c.args.step.now) (map chain_of c.args.chains.now) (links_of c.args.links) (map relation_of c.args.relations.now)))
