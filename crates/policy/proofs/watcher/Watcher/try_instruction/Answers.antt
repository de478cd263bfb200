use Rattle.std.proofs.Common.{◌≡◌, subst}
use Rattle.processor.specs.Fetch.{fetched}
use Rattle.processor.specs.Machine.{State}
use Rattle.processor.specs.Steps.{state_of}
use Rattle.peripherals.specs.World.{view}
use Rattle.declaration.specs.DeclarationInCode.{meaning}
use Rattle.policy.specs.OpenCalls.{open_calls}
use Rattle.policy.proofs.WatchLemmas.{legal_step, stopped_step, legal_here, broken_here, legal_growth}
use Rattle.policy.proofs.watcher.Watcher.try_instruction.Goals as goal

pub returns-in-Err-clause-watches : goal.returns-in-Err-clause-watches
returns-in-Err-clause-watches g c =
    stopped_step (meaning c.args.declaration.now) (view c.args.self.now.world) (open_calls c.args.self.now.calls.items) c.in-Err.rule c.requires.runs
    (broken_here (meaning c.args.declaration.now) (state_of c.cpu.result.now) (view c.args.self.now.world).state c.deref.result.now c.args.self.now.calls.items c.in-Err.rule c.cpu.ensures.state c.deref.ensures.value
    c.in-Err.ensures.broken)

pub returns-in-Ok-carry_out-clause-watches : goal.returns-in-Ok-carry_out-clause-watches
returns-in-Ok-carry_out-clause-watches g c =
    legal_step (meaning c.args.declaration.now) (view c.args.self.now.world) (open_calls c.args.self.now.calls.items) (view c.carry_out.new.self.world) (open_calls c.carry_out.new.self.calls.items) c.requires.runs
    c.in-Ok-carry_out.ensures.happens c.in-Ok-carry_out.ensures.calls
    (legal_here (meaning c.args.declaration.now) (state_of c.cpu.result.now) (view c.args.self.now.world).state c.deref.result.now c.args.self.now.calls.items c.cpu.ensures.state c.deref.ensures.value
    c.in-Ok.ensures.legal)

pub returns-in-Err-carry_out-clause-only_growth : goal.returns-in-Err-carry_out-clause-only_growth
returns-in-Err-carry_out-clause-only_growth g c =
    legal_growth (meaning c.args.declaration.now) (view c.args.self.now.world) (open_calls c.args.self.now.calls.items) c.requires.runs c.in-Err-carry_out.ensures.only_growth
    (legal_here (meaning c.args.declaration.now) (state_of c.cpu.result.now) (view c.args.self.now.world).state c.deref.result.now c.args.self.now.calls.items c.cpu.ensures.state c.deref.ensures.value
    c.in-Ok.ensures.legal)

pub carry_out-requires-clause-fetched : goal.carry_out-requires-clause-fetched
carry_out-requires-clause-fetched g c =
    let d = meaning c.args.declaration.now in
    subst (λ (s : State). c.in-Ok.instruction ≡ fetched d.profile s) c.cpu.ensures.state c.in-Ok.ensures.fetched
