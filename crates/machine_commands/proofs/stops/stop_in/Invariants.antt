use Rattle.std.proofs.Common.{◌≡◌, ◌≤◌}
use Rattle.peripherals.specs.World.{view, profile_of}
use Rattle.machine_commands.specs.Course.{ends_at_halt, events_in}
use Rattle.machine_commands.proofs.StopLemmas.{Passed}
use Rattle.machine_commands.proofs.stops.stop_in.Given as goal

abbrev pub invariant-loop-index : goal.invariant-loop-index
invariant-loop-index g l = record {
  passed : Passed l.stops (profile_of l.initial.world) (ends_at_halt l.course) (events_in l.course) (view l.initial.world) l.index l.visits (view l.world);
  profile : profile_of l.world ≡ profile_of l.initial.world;
  few : l.visits ≤ l.index;
}
