use Rattle.std.proofs.Common.{◌≡◌}
use Rattle.declaration.specs.DeclarationInCode.{meaning}
use Rattle.peripherals.specs.World.{profile_of}
use Rattle.proposer.proofs.widening.taught_by_run.Given as goal

abbrev pub invariant-loop-event : goal.invariant-loop-event
invariant-loop-event g l = profile_of l.watcher.world ≡ (meaning l.declaration).profile
