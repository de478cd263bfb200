use Rattle.std.proofs.Common.{◌≡◌, ◌++◌, map, take}
use Rattle.domain.specs.ChainsInCode.{chain_of}
use Rattle.certificate_lines.specs.Packed.{said_lines}
use Rattle.certificate_lines.specs.Lines.{ChainIs}
use Rattle.certificate_lines.proofs.lines.push_chains.Given as goal

abbrev pub invariant-loop-chain : goal.invariant-loop-chain
invariant-loop-chain g l = said_lines l.lines ≡ said_lines l.fn.lines ++ map ChainIs (map chain_of (take l.chain-index l.chains))
