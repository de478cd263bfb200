use Rattle.std.proofs.Common.{◌≡◌, ◌+◌, ◌≤◌, ◌++◌, drop, length, map}
use Rattle.std.specs.Prelude.{flat_map}
use Rattle.wordset.specs.Links.{links_of}
use Rattle.domain.specs.Chains.{all_longer}
use Rattle.domain.specs.RelationsInCode.{relation_of}
use Rattle.domain.specs.ChainsInCode.{step_of, chain_of}
use Rattle.domain.specs.FactInCode.{fact_in_code}
use Rattle.transfer.specs.Stores.{begun_by}
use Rattle.transfer.specs.Shaped.{begun_beside}
use Rattle.transfer.proofs.stores.push_each_begun.Given as goal

abbrev pub invariant-loop-relation : goal.invariant-loop-relation
invariant-loop-relation g l =
    (record (fact_in_code l.after) {
      chains = (fact_in_code l.after).chains ++
          flat_map (λ r. all_longer (step_of l.step) (begun_beside (map chain_of l.chains) (begun_by (links_of l.links) r.sum r.set))) (map relation_of (drop l.relation-index l.relations));
    } ≡ record (fact_in_code l.fn.after) {
      chains = (fact_in_code l.fn.after).chains ++
          flat_map (λ r. all_longer (step_of l.step) (begun_beside (map chain_of l.chains) (begun_by (links_of l.links) r.sum r.set))) (map relation_of l.relations);
    }) ×
    (length l.after.chains.items ≤ length l.fn.after.chains.items + l.relation-index)
