use Rattle.std.proofs.Common.{◌≡◌, ◌≤◌, ◌+◌, length}
use Rattle.certificate_lines.specs.CertificateInCode.{claims, exits_from, IsBeforeExits}
use Rattle.judge.proofs.claims.CertificateClaims.count_exits.Given as goal

abbrev pub invariant-loop-entry : goal.invariant-loop-entry
invariant-loop-entry g l =
    record {
      stands : IsBeforeExits l.self l.line l.entry l.offset;
      few : l.count ≤ l.line;
      counted : l.count + length (exits_from l.self l.line l.entry l.offset) ≡ length ((claims l.self).exits l.entry l.offset);
    }

abbrev pub decreases-loop-entry : goal.decreases-loop-entry
decreases-loop-entry g l =
    length (exits_from l.self l.line l.entry l.offset)
