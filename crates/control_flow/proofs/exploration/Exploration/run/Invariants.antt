use Rattle.std.proofs.Common.{◌≡◌}
use Rattle.declaration.specs.DeclarationInCode.{meaning}
use Rattle.peripherals.specs.World.{profile_of}
use Rattle.control_flow.proofs.exploration.Exploration.run.Given as goal

abbrev pub invariant-loop-lesson : goal.invariant-loop-lesson
invariant-loop-lesson g l = profile_of l.trial.watcher.world ≡ (meaning l.self.declaration).profile
