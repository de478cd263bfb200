use Rattle.std.proofs.Common.{◌≡◌, ◌≤◌, drop}
use Rattle.certificate_lines.specs.CertificateInCode.{claims, facts_from, IsBeforeFacts}
use Rattle.judge.proofs.claims.CertificateClaims.put_fact.Given as goal

abbrev pub invariant-loop-before : goal.invariant-loop-before
invariant-loop-before g l =
    record {
      few : l._before ≤ l.index;
      stands : IsBeforeFacts l.self l.line l.at;
      rest : facts_from l.self l.line l.at ≡ drop l._before ((claims l.self).facts l.at);
    }
