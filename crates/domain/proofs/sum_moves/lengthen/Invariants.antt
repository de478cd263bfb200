use Rattle.std.proofs.Common.{◌≡◌, ◌++◌, drop, length, map}
use Rattle.domain.specs.Chains.{all_longer}
use Rattle.domain.specs.ChainsInCode.{chain_of, step_of, AreShort}
use Rattle.domain.proofs.sum_moves.lengthen.Given as goal

abbrev pub invariant-loop-chain : goal.invariant-loop-chain
invariant-loop-chain l =
    ((map chain_of l.list.items ++ all_longer (step_of l.step) (map chain_of (drop l.chain-index l.chains))) ≡ all_longer (step_of l.step) (map chain_of l.chains))
    × (length l.list.items ≡ l.chain-index) × AreShort (map chain_of (drop l.chain-index l.chains))
