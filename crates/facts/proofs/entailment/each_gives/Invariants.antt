use Rattle.std.proofs.Common.{drop, map}
use Rattle.std.specs.Prelude.{◌↔◌}
use Rattle.facts.specs.Entailment.{EachGives}
use Rattle.domain.specs.ChainsInCode.{chain_of}
use Rattle.facts.proofs.entailment.each_gives.Given as goal

abbrev pub invariant-loop-chain : goal.invariant-loop-chain
invariant-loop-chain l = EachGives l.cell l.word l.ac l.link (map chain_of (drop l.chain-index l.chains)) ↔ EachGives l.cell l.word l.ac l.link (map chain_of l.chains)
