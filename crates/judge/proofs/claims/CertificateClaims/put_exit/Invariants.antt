use Rattle.std.proofs.Common.{◌≡◌, ◌≤◌, drop}
use Rattle.certificate_lines.specs.CertificateInCode.{claims, exits_from, IsBeforeExits}
use Rattle.judge.proofs.claims.CertificateClaims.put_exit.Given as goal

abbrev pub invariant-loop-before : goal.invariant-loop-before
invariant-loop-before g l =
    record {
      few : l._before ≤ l.index;
      stands : IsBeforeExits l.self l.line l.entry l.offset;
      rest : exits_from l.self l.line l.entry l.offset ≡ drop l._before ((claims l.self).exits l.entry l.offset);
    }
