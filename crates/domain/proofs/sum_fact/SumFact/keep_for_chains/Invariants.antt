use Rattle.std.proofs.Common.{◌≡◌, drop, map}
use Rattle.wordset.specs.Lanes.{words}
use Rattle.domain.specs.LocationsInCode.{location_of}
use Rattle.domain.specs.Facts.{Fact, OfSums}
use Rattle.domain.specs.Adding.{adding_all}
use Rattle.domain.specs.ChainsInCode.{chain_of}
use Rattle.domain.specs.FactInCode.{fact_in_code, all_parts_of_chains}
use Rattle.domain.proofs.sum_fact.SumFact.keep_for_chains.Given as goal

abbrev pub invariant-loop-chain : goal.invariant-loop-chain
invariant-loop-chain g l =
    (f : Fact) → words l.fn.place ≡ f.set (location_of l.name) →
    (h : Fact) × (words l.place ≡ h.set (location_of l.name))
    × (adding_all OfSums (all_parts_of_chains (fact_in_code l.self) (map chain_of (drop l.chain-index l.chains))) h ≡ adding_all OfSums (all_parts_of_chains (fact_in_code l.self) (map chain_of l.chains)) f)
