use Rattle.std.proofs.Common.{◌≡◌, ◌≤◌, take}
use Rattle.machine_commands.specs.Last.{lines_in}
use Rattle.machine_commands.proofs.last.lines_in.Given as goal

abbrev pub invariant-loop-byte : goal.invariant-loop-byte
invariant-loop-byte l = record {
  lines : l.found ≡ lines_in (take l.byte-index l.text);
  few : l.found ≤ l.byte-index;
}
