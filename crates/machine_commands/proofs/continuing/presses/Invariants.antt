use Rattle.std.proofs.Common.{◌≡◌, ◌≤◌, take}
use Rattle.machine_commands.specs.Continued.{presses}
use Rattle.machine_commands.proofs.continuing.presses.Given as goal

abbrev pub invariant-loop-index : goal.invariant-loop-index
invariant-loop-index l = record {
  counts : l.count ≡ presses (take l.index l.events);
  few : l.count ≤ l.index;
}
