use Rattle.std.proofs.Common.{◌==◌, ◌&&◌}
use Rattle.processor.specs.Steps.{state_of}
use Rattle.declaration.specs.DeclarationInCode.{return_assertion_of}
use Rattle.policy.specs.Decided.{implies, is_so}
use Rattle.policy.proofs.HoldLemmas.{all_done, all_fails, all_more}
use Rattle.policy.proofs.legality.each_holds_by.Goals as goal

pub loop-returning-preserved : goal.loop-returning-preserved
loop-returning-preserved c =
    all_more return_assertion_of (λ r. implies ((r.entry == c.args.entry) && r.offsets c.args.offset) (is_so r.assertion (state_of c.args.cpu.now))) c.args.returns.now c.loop-returning.returning-index
    c.returning-item.result c.holds_by.result c.loop-returning-test.true c.returning-item.is c.holds_by.ensures c.if-not-holds_by.false c.loop-returning.invariant

pub returns-then-not-holds_by : goal.returns-then-not-holds_by
returns-then-not-holds_by c =
    all_fails return_assertion_of (λ r. implies ((r.entry == c.args.entry) && r.offsets c.args.offset) (is_so r.assertion (state_of c.args.cpu.now))) c.args.returns.now c.loop-returning.returning-index
    c.returning-item.result c.holds_by.result c.loop-returning-test.true c.returning-item.is c.holds_by.ensures c.if-not-holds_by.true c.loop-returning.invariant

pub returns : goal.returns
returns c =
    all_done return_assertion_of (λ r. implies ((r.entry == c.args.entry) && r.offsets c.args.offset) (is_so r.assertion (state_of c.args.cpu.now))) c.args.returns.now c.loop-returning.returning-index
    c.loop-returning-test.false c.loop-returning.invariant
