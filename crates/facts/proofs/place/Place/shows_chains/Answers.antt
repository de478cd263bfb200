use Rattle.facts.proofs.ShowingLemmas.{chain_step, chain_fails}
use Rattle.transfer.proofs.EntailLemmas.{not_both}
use Rattle.facts.specs.PlaceInCode.{place_in_code}
use Rattle.domain.specs.ChainsInCode.{chain_of}
use Rattle.facts.proofs.place.Place.shows_chains.Goals as goal

pub returns-then-not-shows_chain : goal.returns-then-not-shows_chain
returns-then-not-shows_chain g c = chain_fails chain_of (place_in_code c.args.self.now) (g.K.KnownFact.known c.args.fact.now) _ _ _ c.loop-chain-test.true c.chain-item.is (not_both _ c.if-not-shows_chain.true c.shows_chain.ensures.1) c.loop-chain.invariant

pub loop-chain-preserved : goal.loop-chain-preserved
loop-chain-preserved g c = chain_step chain_of (place_in_code c.args.self.now) (g.K.KnownFact.known c.args.fact.now) _ _ _ c.loop-chain-test.true c.chain-item.is (c.shows_chain.ensures.0 c.if-not-shows_chain.false) c.loop-chain.invariant
