use Rattle.std.proofs.Common.{◌≡◌}
use Rattle.declaration.specs.DeclarationInCode.{meaning}
use Rattle.peripherals.specs.Operator.{plan_of}
use Rattle.peripherals.specs.World.{view, profile_of}
use Rattle.machine_commands.specs.SessionParts.{events_left}
use Rattle.machine_commands.proofs.ContinuedLemmas.{GatheredOn}
use Rattle.machine_commands.proofs.continuing.continued_events_of.Given as goal

abbrev pub invariant-loop-event : goal.invariant-loop-event
invariant-loop-event g l = record {
  gathered : GatheredOn (meaning l.declaration) l.continues l.left (plan_of l.initial.operator) (plan_of l.operator) l.operator.last (view l.initial.world) (view l.world) l.events.items;
  profile : profile_of l.world ≡ (meaning l.declaration).profile;
}

abbrev pub decreases-loop-event : goal.decreases-loop-event
decreases-loop-event g l = events_left (plan_of l.operator) l.operator.last
