use Rattle.std.proofs.Common.{◌≡◌}
use Rattle.peripherals.specs.World.{view, profile_of}
use Rattle.declaration.specs.DeclarationInCode.{meaning}
use Rattle.policy.specs.OpenCalls.{open_calls}
use Rattle.policy.proofs.WatchLemmas.{Taken}
use Rattle.policy.proofs.watcher.watch_events.Given as goal

abbrev pub invariant-loop-index : goal.invariant-loop-index
invariant-loop-index g l =
    (profile_of l.watcher.world ≡ (meaning l.declaration).profile) ×
    Taken (meaning l.declaration) l.events (view l.initial.watcher.world) l.index (view l.watcher.world) (open_calls l.watcher.calls.items)
