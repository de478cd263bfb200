use Rattle.std.proofs.Common.{refl}
use Rattle.std.proofs.lemmas.Result.{IfOk-weaker}
use Rattle.declaration.specs.DeclarationInCode.{meaning}
use Rattle.peripherals.specs.Operator.{plan_of}
use Rattle.peripherals.specs.World.{view}
use Rattle.machine_commands.specs.Schedule.{first_place}
use Rattle.machine_commands.proofs.ContinuedLemmas.{plain_comes}
use Rattle.machine_commands.proofs.stopped_watch.events_that_come.Goals as goal

pub returns-in-None : goal.returns-in-None
returns-in-None g c = record {
  come = rw c.in-None.is (IfOk-weaker c.continued_events_of.result _ _
      (λ events on. plain_comes (meaning c.args.declaration.now) 0 (first_place (plan_of c.args.operator.now)) (view c.args.world.now) events.items refl on) c.continued_events_of.ensures.come);
}
