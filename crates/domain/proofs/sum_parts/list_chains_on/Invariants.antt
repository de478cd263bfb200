use Rattle.std.proofs.Common.{◌≡◌, ◌≤◌, ◌++◌, drop, length, map}
use Rattle.std.specs.Prelude.{filter}
use Rattle.wordset.specs.Lanes.{words}
use Rattle.domain.specs.ChainsInCode.{chain_of}
use Rattle.domain.proofs.sum_parts.list_chains_on.Given as goal

abbrev pub invariant-loop-chain : goal.invariant-loop-chain
invariant-loop-chain l =
    ((map chain_of l.list.items ++ filter (λ c. words l.cells c.cell) (map chain_of (drop l.chain-index l.chains))) ≡ filter (λ c. words l.cells c.cell) (map chain_of l.chains))
    × (length l.list.items ≤ l.chain-index)
