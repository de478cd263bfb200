use Rattle.std.proofs.Common.{◌≡◌, take}
use Rattle.peripherals.specs.World.{view, profile_of}
use Rattle.declaration.specs.DeclarationInCode.{meaning}
use Rattle.policy.specs.Watching.{LeadsTo}
use Rattle.policy.proofs.runs.happen_all.Given as goal

abbrev pub invariant-loop-index : goal.invariant-loop-index
invariant-loop-index g l =
    (profile_of l.world ≡ (meaning l.declaration).profile) ×
    LeadsTo (meaning l.declaration) (take l.index l.events) (view l.initial.world) (view l.world)
