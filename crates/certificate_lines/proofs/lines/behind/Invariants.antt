use Rattle.std.proofs.Common.{◌≡◌, ◌+◌, ◌≤◌, drop, length}
use Rattle.certificate_lines.specs.Packed.{said_lines}
use Rattle.certificate_lines.specs.Found.{behind_details}
use Rattle.certificate_lines.proofs.lines.behind.Given as goal

abbrev pub invariant-loop-at : goal.invariant-loop-at
invariant-loop-at g l = record {
  few : l.at ≤ length (said_lines l.lines);
  past : l.start + 1 ≤ l.at;
  same : behind_details (drop l.at (said_lines l.lines)) ≡ behind_details (drop (l.start + 1) (said_lines l.lines));
}
