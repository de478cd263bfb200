use Rattle.std.proofs.Common.{◌≡◌, ◌≤◌, false, take}
use Rattle.peripherals.specs.World.{view, profile_of}
use Rattle.machine_commands.specs.Course.{ends_at_halt, events_in}
use Rattle.machine_commands.proofs.FollowLemmas.{Came}
use Rattle.machine_commands.proofs.follow.follow.Given as goal

abbrev pub invariant-loop-index : goal.invariant-loop-index
invariant-loop-index g l = record {
  came : Came (profile_of l.initial.world) (ends_at_halt l.course) l.trace (take l.index (events_in l.course)) (view l.initial.world) l.steps (view l.world) (g.W.ByteSink.taken l.initial.out) (g.W.ByteSink.taken l.out);
  profile : profile_of l.world ≡ profile_of l.initial.world;
  steps : l.steps ≤ l.index;
  unmarked : g.W.ByteSink.mark l.out ≡ false;
  silent : l.trace ≡ false → l.out ≡ l.initial.out;
}
