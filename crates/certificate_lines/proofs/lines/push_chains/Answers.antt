use Rattle.std.proofs.Common.{◌∙◌, ◌≤◌, map, take, length}
use Rattle.domain.specs.ChainsInCode.{chain_of}
use Rattle.certificate_lines.specs.Lines.{ChainIs}
use Rattle.domain.specs.Chains.{Chain}
use Rattle.certificate_lines.proofs.SumDetailLemmas.{each_at}
use Rattle.certificate_lines.proofs.lines.push_chains.Goals as goal

pub claim-requires : goal.claim-requires
claim-requires g c =
    each_at (λ (x : Chain). length x.steps ≤ 16) chain_of c.args.chains.now c.loop-chain.chain-index c.chain-item.result c.loop-chain-test.true c.chain-item.is c.requires

pub returns-in_err-claim-clause-front : goal.returns-in_err-claim-clause-front
returns-in_err-claim-clause-front g c =
    (map ChainIs (map chain_of (take c.loop-chain.chain-index c.args.chains.now)), c.in_err-claim.ensures.same ∙ c.loop-chain.invariant)
