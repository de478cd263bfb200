use Rattle.std.proofs.Common.{◌≡◌, ◌≤◌}
use Rattle.peripherals.specs.World.{view, profile_of}
use Rattle.declaration.specs.DeclarationInCode.{meaning}
use Rattle.machine_commands.specs.Running.{fresh}
use Rattle.machine_commands.proofs.DeclaredLemmas.{PassedDeclared}
use Rattle.machine_commands.proofs.declared_run.declared_stop_of.Given as goal

abbrev pub invariant-loop-index : goal.invariant-loop-index
invariant-loop-index g l = record {
  passed : PassedDeclared l.stops (meaning l.declaration) l.events (fresh l.image (meaning l.declaration).start) l.index l.visits (view l.world);
  profile : profile_of l.world ≡ (meaning l.declaration).profile;
  few : l.visits ≤ l.index;
}
