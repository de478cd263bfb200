use Rattle.std.proofs.Common.{◌≡◌, refl, sym, subst}
use Rattle.processor.specs.Fetch.{fetched}
use Rattle.processor.specs.Machine.{State}
use Rattle.processor.specs.Steps.{state_of}
use Rattle.peripherals.specs.World.{view}
use Rattle.declaration.specs.DeclarationInCode.{meaning}
use Rattle.policy.specs.OpenCalls.{open_calls}
use Rattle.policy.proofs.WatchLemmas.{calls_by_instruction, call_takes}
use Rattle.policy.proofs.watcher.Watcher.carry_out.Goals as goal

pub returns-in-Err-clause-only_growth : goal.returns-in-Err-clause-only_growth
returns-in-Err-clause-only_growth g c =
    let d = meaning c.args.declaration.now in
    call_takes d d.profile (view c.args.self.now.world).state (view c.args.self.now.world) c.args.instruction.now refl refl c.requires.fetched c.in-Err.ensures.only_calls

pub returns-in-Ok-step-clause-calls : goal.returns-in-Ok-step-clause-calls
returns-in-Ok-step-clause-calls g c =
    let d = meaning c.args.declaration.now in
    let does : c.args.instruction.now ≡ fetched d.profile (state_of c.cpu.result.now) =
    subst (λ (s : State). c.args.instruction.now ≡ fetched d.profile s) (sym c.cpu.ensures.state) c.requires.fetched in
    calls_by_instruction d d.profile (state_of c.cpu.result.now) (view c.args.self.now.world).state c.args.instruction.now c.increment-after.result (open_calls c.args.self.now.calls.items) (open_calls c.follow_calls.new.calls.items)
    c.cpu.ensures.state refl does c.increment-after.ensures c.in-Ok.ensures.calls
