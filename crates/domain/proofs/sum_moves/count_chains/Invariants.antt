use Rattle.std.proofs.Common.{◌≡◌, ◌++◌, drop, length, map}
use Rattle.domain.specs.Chains.{after_count}
use Rattle.domain.specs.ChainsInCode.{chain_of}
use Rattle.domain.proofs.sum_moves.count_chains.Given as goal

abbrev pub invariant-loop-chain : goal.invariant-loop-chain
invariant-loop-chain l =
    ((map chain_of l.list.items ++ map (after_count l.cell l.by) (map chain_of (drop l.chain-index l.chains))) ≡ map (after_count l.cell l.by) (map chain_of l.chains))
    × (length l.list.items ≡ l.chain-index)
