use Rattle.domain.specs.ChainsInCode.{chain_of}
use Rattle.certificate_lines.proofs.SumAddingLemmas.{step_more, steps_begun, steps_done}
use Rattle.certificate_lines.proofs.packed.load.push_steps.Goals as goal

pub loop-step-init : goal.loop-step-init
loop-step-init c = steps_begun (chain_of c.args.chain.now)

pub loop-step-preserved : goal.loop-step-preserved
loop-step-preserved c =
    step_more (chain_of c.args.chain.now) (chain_of c.loop-step.chain) (chain_of c.push.new.self) c.args.steps.now c.loop-step.step-index c.step-item.result
    c.loop-step-test.true c.step-item.is c.loop-step.invariant c.push.ensures

pub returns : goal.returns
returns c = steps_done (chain_of c.args.chain.now) (chain_of c.loop-step.chain) c.args.steps.now c.loop-step.step-index c.loop-step-test.false c.loop-step.invariant
