use Rattle.std.proofs.Common.{◌≡◌, ◌++◌, take, map}
use Rattle.domain.specs.ChainsInCode.{step_of, chain_of}
use Rattle.certificate_lines.proofs.packed.load.push_steps.Given as goal

abbrev pub invariant-loop-step : goal.invariant-loop-step
invariant-loop-step l = chain_of l.chain ≡ record (chain_of l.fn.chain) { steps = (chain_of l.fn.chain).steps ++ map step_of (take l.step-index l.steps) }
