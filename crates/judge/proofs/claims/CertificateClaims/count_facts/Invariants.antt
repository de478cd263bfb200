use Rattle.std.proofs.Common.{◌≡◌, ◌≤◌, ◌+◌, length}
use Rattle.certificate_lines.specs.CertificateInCode.{claims, facts_from, IsBeforeFacts}
use Rattle.judge.proofs.claims.CertificateClaims.count_facts.Given as goal

abbrev pub invariant-loop-at : goal.invariant-loop-at
invariant-loop-at g l =
    record {
      stands : IsBeforeFacts l.self l.line l.at;
      few : l.count ≤ l.line;
      counted : l.count + length (facts_from l.self l.line l.at) ≡ length ((claims l.self).facts l.at);
    }

abbrev pub decreases-loop-at : goal.decreases-loop-at
decreases-loop-at g l =
    length (facts_from l.self l.line l.at)
