use Rattle.std.proofs.Common.{◌≤◌, ◌&&◌, length, map, refl, arith}
use Rattle.std.specs.List.{list_all}
use Rattle.wordset.specs.Links.{links_of}
use Rattle.domain.specs.Narrowing.{links_of_chain}
use Rattle.domain.specs.ChainsInCode.{chain_of}
use Rattle.domain.specs.FactInCode.{fact_in_code}
use Rattle.domain.proofs.GivenLemmas.{links_on, links_end}
use Rattle.domain.proofs.sum_fact.SumFact.keep_links_of.Goals as goal

pub loop-chain-init : goal.loop-chain-init
loop-chain-init g c = λ k. refl

pub loop-chain-preserved : goal.loop-chain-preserved
loop-chain-preserved g c = λ k.
    links_on chain_of (λ d. links_of_chain (fact_in_code c.args.self.now) d k) c.args.chains.now c.loop-chain.chain-index c.chain-item.result
    (links_of c.loop-chain.links k) (links_of c.keep_links_of_chain.new.links k)
    (links_of c.args.links.now k && list_all (λ d. links_of_chain (fact_in_code c.args.self.now) d k) (map chain_of c.args.chains.now))
    c.loop-chain-test.true c.chain-item.is (c.keep_links_of_chain.ensures k) (c.loop-chain.invariant k)

pub returns : goal.returns
returns g c = λ k.
    let past : length c.args.chains.now ≤ c.loop-chain.chain-index = omega (arith, c.loop-chain-test.false) in
    links_end chain_of (λ d. links_of_chain (fact_in_code c.args.self.now) d k) c.args.chains.now c.loop-chain.chain-index (links_of c.loop-chain.links k)
    (links_of c.args.links.now k && list_all (λ d. links_of_chain (fact_in_code c.args.self.now) d k) (map chain_of c.args.chains.now)) past (c.loop-chain.invariant k)
