use Rattle.std.proofs.Common.{◌≡◌, ◌≤◌, ◌++◌, drop, length, map}
use Rattle.std.specs.Prelude.{filter, not}
use Rattle.domain.specs.Locations.{Cell}
use Rattle.domain.specs.Naming.{names_of}
use Rattle.domain.specs.ChainsInCode.{chain_of}
use Rattle.domain.proofs.sum_moves.keep_chains_free_of.Given as goal

abbrev pub invariant-loop-chain : goal.invariant-loop-chain
invariant-loop-chain l =
    ((map chain_of l.list.items ++ filter (λ c. not (names_of l.names (Cell c.cell))) (map chain_of (drop l.chain-index l.chains))) ≡ filter (λ c. not (names_of l.names (Cell c.cell))) (map chain_of l.chains))
    × (length l.list.items ≤ l.chain-index)
