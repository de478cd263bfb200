use Rattle.std.proofs.Common.{◌≡◌, ◌≤◌}
use Rattle.declaration.specs.DeclarationInCode.{meaning}
use Rattle.peripherals.specs.World.{profile_of}
use Rattle.run_search.proofs.search.RunSearch.make_steps.Given as goal

abbrev pub invariant-loop-step : goal.invariant-loop-step
invariant-loop-step g l = record {
  profile : profile_of l.trial.watcher.world ≡ (meaning l.program.declaration.now).profile;
  limit : l.turns.limit ≡ l.initial.turns.limit;
  rises : l.initial.turns.spent ≤ l.turns.spent;
  within : l.turns.spent ≤ l.turns.limit;
}
