use Rattle.std.proofs.Common.{◌≡◌, drop, map}
use Rattle.domain.specs.Chains.{after_steps}
use Rattle.domain.specs.ChainsInCode.{step_of, chain_of}
use Rattle.domain.proofs.chains.Chain.after_steps.Given as goal

abbrev pub invariant-loop-step : goal.invariant-loop-step
invariant-loop-step l = after_steps (map step_of (drop l.step-index l.step-items)) l.now ≡ after_steps (chain_of l.self).steps (l.fn.ac, l.fn.link)
