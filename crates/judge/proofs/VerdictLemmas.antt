-- Programs that a certificate of any version certifies are safe.
use Rattle.declaration.specs.Declaration.{IsDeclared}
use Rattle.policy.specs.Runs.{IsSafe}
use Rattle.judge.specs.Conditions.{IsValid}
use Rattle.judge.specs.Certifying.{Parts, case_of, declaration_of, words_of}
use Rattle.judge.proofs.TrueLemmas.{programs_are_safe}

pub safe_of : (p : Parts) → IsDeclared (declaration_of p) → IsValid (case_of p) → IsSafe (words_of p) (declaration_of p)
safe_of p declared valid = programs_are_safe (case_of p) declared valid
