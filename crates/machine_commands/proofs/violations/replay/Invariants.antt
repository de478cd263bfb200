use Rattle.std.proofs.Common.{◌≡◌}
use Rattle.peripherals.specs.World.{profile_of}
use Rattle.declaration.specs.DeclarationInCode.{meaning}
use Rattle.machine_commands.proofs.violations.replay.Given as goal

abbrev pub invariant-loop-event : goal.invariant-loop-event
invariant-loop-event g l = profile_of l.watcher.world ≡ (meaning l.declaration).profile
