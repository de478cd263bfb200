use Rattle.std.proofs.Common.{arith}
use Rattle.domain.specs.Facts.{OfSums}
use Rattle.domain.specs.Adding.{adding_all}
use Rattle.domain.specs.Narrowing.{parts_of_chain}
use Rattle.domain.specs.ChainsInCode.{chain_of}
use Rattle.domain.specs.FactInCode.{fact_in_code, all_parts_of_chains}
use Rattle.domain.proofs.PartLemmas.{parts_on}
use Rattle.std.proofs.Common.{map}
use Rattle.domain.proofs.sum_fact.SumFact.add_all_parts_of_chains.Goals as goal

pub loop-chain-preserved : goal.loop-chain-preserved
loop-chain-preserved g c = (
  parts_on chain_of (λ d. parts_of_chain (fact_in_code c.args.fact.now) d) c.args.chains.now c.loop-chain.chain-index c.chain-item.result
      (fact_in_code c.loop-chain.self) (fact_in_code c.add_parts_of_chain.new.self) (adding_all OfSums (all_parts_of_chains (fact_in_code c.args.fact.now) (map chain_of c.args.chains.now)) (fact_in_code c.args.self.now))
      c.loop-chain-test.true c.chain-item.is c.add_parts_of_chain.ensures.fact c.loop-chain.invariant.0,
  omega (arith, c.add_parts_of_chain.ensures.cells, c.loop-chain.invariant.1),
  omega (arith, c.add_parts_of_chain.ensures.relations, c.loop-chain.invariant.2),
)
