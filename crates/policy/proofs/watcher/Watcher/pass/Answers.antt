use Rattle.std.proofs.Common.{subst}
use Rattle.instruct.specs.declared.Profile.{Profile}
use Rattle.peripherals.specs.World.{view}
use Rattle.peripherals.specs.Events.{Happens}
use Rattle.declaration.specs.DeclarationInCode.{meaning}
use Rattle.policy.specs.OpenCalls.{open_calls}
use Rattle.policy.proofs.WatchLemmas.{passes_on}
use Rattle.policy.proofs.watcher.Watcher.pass.Goals as goal

pub returns-in-Ok-clause-watches : goal.returns-in-Ok-clause-watches
returns-in-Ok-clause-watches g c =
    passes_on (meaning c.args.declaration.now) (view c.args.self.now.world) (open_calls c.args.self.now.calls.items) c.args.event (view c.apply.new.self) c.requires.passes
    (subst (λ (p : Profile). Happens p (view c.args.self.now.world) c.args.event (view c.apply.new.self)) c.requires.profile c.in-Ok.ensures.happens)
