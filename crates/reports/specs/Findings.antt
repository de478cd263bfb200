-- What a report knows about its certificate, and what it says of it only then.
use Rattle.std.specs.Prelude.{ℕ, ◌≡◌, ⊤, List, [], Result, Ok, Err}
use Rattle.certificate_lines.specs.CertificateInCode.{claims}
use Rattle.facts.specs.declared.Condition.{Condition}
use Rattle.judge.specs.Conditions.{IsFirst, IsValid}
use Rattle.judge.specs.Judged.{judged}
use Rattle.judge.specs.Landing.{Case}
use Rattle.judge.specs.declared.judging.Refusal.{Refusal}
use Rattle.reports.specs.declared.listing.FactAbsence.{FactAbsence}
use Rattle.reports.specs.declared.listing.FactAbsence.TheVariants.{NeverReached, NoFact}
use Rattle.reports.specs.declared.report.Finding.{Finding}
use Rattle.reports.specs.declared.report.Finding.TheVariants.{Shown, Refused, Stuck}
use Rattle.reports.specs.declared.report.Report.{Report}
use Rattle.diagnostics.specs.CheckText.{condition_text}

-- What a report knows about a certificate with this verdict: that all conditions hold, or at which address one fails.
abbrev pub finding_of : Result (Unit {0}) Refusal → Finding
finding_of (Ok holds) = Shown
finding_of (Err refusal) = Refused refusal.address

-- The name of the condition that fails by this verdict; nothing for a yes.
abbrev pub failing_of : Result (Unit {0}) Refusal → List ℕ
failing_of (Ok holds) = []
failing_of (Err refusal) = condition_text refusal.condition

-- A condition of this name is the first that fails, and it fails at this address.
pub record FailsFirst (j : Case) (address : ℕ) (failing : List ℕ) : Type 0 where
  pub condition : Condition
  pub first : IsFirst j condition address
  pub name : failing ≡ condition_text condition

-- What a report knows about the certificate of a case is so, and this names the condition that fails: a report says that something is
-- shown only if every condition holds, and that a condition fails only of the first one, at its address. Where a search is stuck,
-- nothing is asked.
abbrev pub IsFinding : Case → Finding → List ℕ → Type 0
IsFinding j Shown failing = IsValid j
IsFinding j (Refused address) failing = FailsFirst j address failing
IsFinding j (Stuck address) failing = ⊤

-- What a report knows about its certificate is so.
abbrev pub IsFindingTrue : {A D C : Type 0} → Report A D C → Type 0
IsFindingTrue report = IsFinding (judged report.image.now report.declaration.now (claims report.certificate.now)) report.finding report.failing.now

-- What is said of a cell of a body that has no fact: that it is never reached, if every condition holds; otherwise only that there
-- is no fact.
abbrev pub absence_of : Finding → FactAbsence
absence_of Shown = NeverReached
absence_of (Refused address) = NoFact
absence_of (Stuck address) = NoFact
