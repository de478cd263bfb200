use Rattle.std.proofs.Common.{◌≡◌, drop, map}
use Rattle.domain.specs.ChainsInCode.{chain_of}
use Rattle.transfer.specs.Stores.{has_chain_on}
use Rattle.transfer.proofs.stores.has_chain_on.Given as goal

abbrev pub invariant-loop-chain : goal.invariant-loop-chain
invariant-loop-chain l = has_chain_on l.cell (map chain_of (drop l.chain-index l.chains)) ≡ has_chain_on l.cell (map chain_of l.chains)
