use Rattle.std.proofs.Common.{◌≡◌, ◌++◌, drop, length, map}
use Rattle.domain.specs.ChainsInCode.{chain_of}
use Rattle.domain.proofs.narrowing.copy_chains.Given as goal

abbrev pub invariant-loop-chain : goal.invariant-loop-chain
invariant-loop-chain l = ((map chain_of l.to.items ++ map chain_of (drop l.chain-index l.from)) ≡ map chain_of l.from) × (length l.to.items ≡ l.chain-index)
