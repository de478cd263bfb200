use Rattle.std.proofs.Common.{◌≡◌}
use Rattle.declaration.specs.DeclarationInCode.{meaning}
use Rattle.peripherals.specs.World.{profile_of}
use Rattle.proposer.specs.Widenings.{IsDrafted}
use Rattle.proposer.proofs.widening.run_on.Given as goal

abbrev pub invariant-loop-step : goal.invariant-loop-step
invariant-loop-step g l = record {
  drafted : IsDrafted l.current;
  profile : profile_of l.watcher.world ≡ (meaning l.current.declaration).profile;
}
