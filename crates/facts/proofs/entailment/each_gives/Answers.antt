use Rattle.facts.proofs.ShowingLemmas.{gives_step, gives_fails}
use Rattle.transfer.proofs.EntailLemmas.{not_both}
use Rattle.domain.specs.ChainsInCode.{chain_of}
use Rattle.facts.proofs.entailment.each_gives.Goals as goal

pub returns-then-not-gives_if_on : goal.returns-then-not-gives_if_on
returns-then-not-gives_if_on c = gives_fails chain_of _ _ _ _ _ _ _ c.loop-chain-test.true c.chain-item.is (not_both _ c.if-not-gives_if_on.true c.gives_if_on.ensures.1) c.loop-chain.invariant

pub loop-chain-preserved : goal.loop-chain-preserved
loop-chain-preserved c = gives_step chain_of _ _ _ _ _ _ _ c.loop-chain-test.true c.chain-item.is (c.gives_if_on.ensures.0 c.if-not-gives_if_on.false) c.loop-chain.invariant
