-- What a report knows about its certificate.
use Rattle.std.proofs.Common.{refl}
use Rattle.std.specs.Prelude.{MatchResult, Result, Ok, Err}
use Rattle.judge.specs.Conditions.{IsFirst, IsValid}
use Rattle.judge.specs.Landing.{Case}
use Rattle.judge.specs.declared.judging.Refusal.{Refusal}
use Rattle.reports.specs.Findings.{IsFinding, failing_of, finding_of}

-- What the verdict of the checker says is so.
pub is_finding : (j : Case) (verdict : Result (Unit {0}) Refusal) → MatchResult verdict (λ _. IsValid j) (λ r. IsFirst j r.condition r.address)
    → IsFinding j (finding_of verdict) (failing_of verdict)
is_finding j (Ok holds) valid = valid
is_finding j (Err refusal) first = record { condition = refusal.condition; first = first; name = refl }
