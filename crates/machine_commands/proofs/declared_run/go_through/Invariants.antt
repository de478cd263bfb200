use Rattle.std.proofs.Common.{◌≡◌, ◌≤◌, false}
use Rattle.peripherals.specs.World.{view, profile_of}
use Rattle.declaration.specs.DeclarationInCode.{meaning}
use Rattle.machine_commands.proofs.DeclaredLemmas.{Gone}
use Rattle.machine_commands.proofs.declared_run.go_through.Given as goal

abbrev pub invariant-loop-index : goal.invariant-loop-index
invariant-loop-index g l = record {
  gone : Gone (meaning l.declaration) l.events (view l.initial.world) l.index l.trace.text.items l.steps (view l.world);
  profile : profile_of l.world ≡ profile_of l.initial.world;
  few : l.steps ≤ l.index;
  room : l.trace.failed ≡ false;
}
