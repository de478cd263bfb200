use Rattle.std.proofs.Common.{drop, map}
use Rattle.domain.specs.ChainsInCode.{AreShort, chain_of}
use Rattle.fixpoint.proofs.outcomes.have_room.Given as goal

abbrev pub invariant-loop-chain : goal.invariant-loop-chain
invariant-loop-chain l =
    AreShort (map chain_of (drop l.chain-index l.chains)) → AreShort (map chain_of l.chains)
