use Rattle.std.proofs.Common.{subst}
use Rattle.judge.specs.Certifying.{Parts, case_of, declaration_of, words_of}
use Rattle.judge.specs.Conditions.{IsValid}
use Rattle.policy.specs.Runs.{IsSafe}
use Rattle.judge.proofs.VerdictLemmas.{safe_of}
use Rattle.judge.proofs.verdict.Certified.is_safe.Goals as goal

pub returns-clause-valid : goal.returns-clause-valid
returns-clause-valid g c = subst (λ (p : Parts). IsValid (case_of p)) c.self.view_is c.self.invariant

pub returns-clause-safe : goal.returns-clause-safe
returns-clause-safe g c =
    subst (λ (p : Parts). IsSafe (words_of p) (declaration_of p)) c.self.view_is (safe_of (record { image = c.self.inside.image; declaration = c.self.inside.declaration; certificate = c.self.inside.certificate }) c.is_declared.ensures c.self.invariant)
