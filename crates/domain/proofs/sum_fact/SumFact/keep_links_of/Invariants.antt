use Rattle.std.proofs.Common.{◌≡◌, ℕ, ◌&&◌, drop, map}
use Rattle.std.specs.List.{list_all}
use Rattle.wordset.specs.Links.{links_of}
use Rattle.domain.specs.Narrowing.{links_of_chain}
use Rattle.domain.specs.ChainsInCode.{chain_of}
use Rattle.domain.specs.FactInCode.{fact_in_code}
use Rattle.domain.proofs.sum_fact.SumFact.keep_links_of.Given as goal

abbrev pub invariant-loop-chain : goal.invariant-loop-chain
invariant-loop-chain g l =
    (k : ℕ) → (links_of l.links k && list_all (λ d. links_of_chain (fact_in_code l.self) d k) (map chain_of (drop l.chain-index l.chains)))
    ≡ (links_of l.fn.links k && list_all (λ d. links_of_chain (fact_in_code l.self) d k) (map chain_of l.chains))
