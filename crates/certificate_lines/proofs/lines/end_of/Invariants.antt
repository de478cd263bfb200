use Rattle.std.proofs.Common.{◌≡◌, ◌+◌, ◌≤◌, length}
use Rattle.certificate_lines.specs.Packed.{said_lines}
use Rattle.certificate_lines.proofs.SumDetailLemmas.{EndsAt}
use Rattle.certificate_lines.proofs.lines.end_of.Given as goal

abbrev pub invariant-loop-at : goal.invariant-loop-at
invariant-loop-at g l = record {
  few : l.at ≤ length (said_lines l.lines);
  ends : EndsAt (said_lines l.lines) l.at ≡ EndsAt (said_lines l.lines) (l.start + 1);
}
