use Rattle.std.proofs.Common.{◌∙◌, ap, refl, map, arith}
use Rattle.domain.specs.LocationsInCode.{location_of}
use Rattle.domain.specs.Facts.{Fact, OfSums}
use Rattle.domain.specs.Adding.{adding_all}
use Rattle.domain.specs.Narrowing.{parts_of_chain}
use Rattle.domain.specs.ChainsInCode.{chain_of}
use Rattle.domain.specs.FactInCode.{fact_in_code, all_parts_of_chains}
use Rattle.domain.proofs.PartLemmas.{parts_on}
use Rattle.domain.proofs.NameAskedLemmas.{none_left}
use Rattle.domain.proofs.sum_fact.SumFact.keep_for_chains.Goals as goal

pub loop-chain-init : goal.loop-chain-init
loop-chain-init g c = λ f h. (f, h, refl)

pub loop-chain-preserved : goal.loop-chain-preserved
loop-chain-preserved g c = λ f h.
    let before = c.loop-chain.invariant f h in (
      adding_all OfSums (parts_of_chain (fact_in_code c.args.self.now) (chain_of c.chain-item.result)) before.0,
      c.keep_for_chain.ensures before.0 before.1,
      parts_on chain_of (λ d. parts_of_chain (fact_in_code c.args.self.now) d) c.args.chains.now c.loop-chain.chain-index c.chain-item.result before.0 _
          (adding_all OfSums (all_parts_of_chains (fact_in_code c.args.self.now) (map chain_of c.args.chains.now)) f) c.loop-chain-test.true c.chain-item.is refl before.2,
    )

pub returns : goal.returns
returns g c = λ f h.
    let last = c.loop-chain.invariant f h in
    last.1 ∙ ap (λ (x : Fact). x.set (location_of c.args.name.now))
    (none_left chain_of (λ d. parts_of_chain (fact_in_code c.args.self.now) d) c.args.chains.now c.loop-chain.chain-index last.0
    (adding_all OfSums (all_parts_of_chains (fact_in_code c.args.self.now) (map chain_of c.args.chains.now)) f) (omega (arith, c.loop-chain-test.false)) last.2)
