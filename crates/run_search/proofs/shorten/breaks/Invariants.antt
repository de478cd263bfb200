use Rattle.std.proofs.Common.{◌≡◌, ◌≤◌}
use Rattle.declaration.specs.DeclarationInCode.{meaning}
use Rattle.peripherals.specs.World.{profile_of}
use Rattle.run_search.proofs.shorten.breaks.Given as goal

abbrev pub invariant-loop-step : goal.invariant-loop-step
invariant-loop-step g l = record {
  profile : profile_of l.watcher.world ≡ (meaning l.declaration).profile;
  limit : l.turns.limit ≡ l.initial.turns.limit;
  rises : l.initial.turns.spent ≤ l.turns.spent;
  within : l.turns.spent ≤ l.turns.limit;
}
