use Rattle.std.proofs.Common.{◌==◌, ◌&&◌}
use Rattle.processor.specs.Steps.{state_of}
use Rattle.declaration.specs.DeclarationInCode.{place_assertion_of}
use Rattle.policy.specs.Decided.{implies, is_so}
use Rattle.policy.proofs.HoldLemmas.{all_done, all_fails, all_more}
use Rattle.policy.proofs.legality.each_holds.Goals as goal

pub loop-holding-preserved : goal.loop-holding-preserved
loop-holding-preserved c =
    all_more place_assertion_of (λ h. implies (h.places (state_of c.args.cpu.now).pc) (is_so h.assertion (state_of c.args.cpu.now))) c.args.holds.now c.loop-holding.holding-index
    c.holding-item.result c.holds_here.result c.loop-holding-test.true c.holding-item.is c.holds_here.ensures c.if-not-holds_here.false c.loop-holding.invariant

pub returns-then-not-holds_here : goal.returns-then-not-holds_here
returns-then-not-holds_here c =
    all_fails place_assertion_of (λ h. implies (h.places (state_of c.args.cpu.now).pc) (is_so h.assertion (state_of c.args.cpu.now))) c.args.holds.now c.loop-holding.holding-index
    c.holding-item.result c.holds_here.result c.loop-holding-test.true c.holding-item.is c.holds_here.ensures c.if-not-holds_here.true c.loop-holding.invariant

pub returns : goal.returns
returns c =
    all_done place_assertion_of (λ h. implies (h.places (state_of c.args.cpu.now).pc) (is_so h.assertion (state_of c.args.cpu.now))) c.args.holds.now c.loop-holding.holding-index
    c.loop-holding-test.false c.loop-holding.invariant
