use Rattle.std.proofs.Common.{◌≡◌, ◌+◌, ◌≤◌, false}
use Rattle.peripherals.specs.World.{view, profile_of}
use Rattle.machine_commands.proofs.StoppedLemmas.{Unstopped}
use Rattle.machine_commands.proofs.session.operate.Given as goal

abbrev pub invariant-loop-event : goal.invariant-loop-event
invariant-loop-event g l = record {
  un : Unstopped g.S.Scheduler.brings l.stops (profile_of l.initial.world) l.trace l.initial.schedule l.schedule (view l.initial.world) (view l.world) l.steps l.visits (g.W.ByteSink.taken l.initial.report) (g.W.ByteSink.taken l.report) (g.T.ByteSink.taken l.initial.teletype) (g.T.ByteSink.taken l.teletype);
  profile : profile_of l.world ≡ profile_of l.initial.world;
  steps : l.steps + g.S.Scheduler.steps_to_come l.schedule ≤ g.S.Scheduler.steps_to_come l.initial.schedule;
  visits : l.visits + g.S.Scheduler.steps_to_come l.schedule ≤ g.S.Scheduler.steps_to_come l.initial.schedule;
  readable : g.S.Scheduler.unread l.schedule ≡ false;
  unmarked : g.W.ByteSink.mark l.report ≡ false;
  untyped : g.T.ByteSink.mark l.teletype ≡ false;
}

abbrev pub decreases-loop-event : goal.decreases-loop-event
decreases-loop-event g l = g.S.Scheduler.events_to_come l.schedule
