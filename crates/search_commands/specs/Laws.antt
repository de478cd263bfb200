-- What the answers to several calls on the same bytes say about one another.
use Rattle.std.specs.Prelude.{ℕ, ◌≡◌, List, Some}
use Rattle.command_parts.specs.declared.status.Status.TheVariants.{Done}
use Rattle.judge.specs.Certifying.{AreRead, IsRefused, Parts, case_of, declaration_of, words_of}
use Rattle.judge.specs.Conditions.{IsValid}
use Rattle.judge.specs.declared.verdict.CertifyFault.{CertifyFault}
use Rattle.judge.specs.declared.verdict.CertifyFault.TheVariants as fault
use Rattle.policy.specs.Runs.{IsSafe}
use Rattle.refuter.specs.declared.Witness.{Witness}
use Rattle.search_commands.specs.VerifyText.{IsVerified}
use Rattle.search_commands.specs.declared.verifying.Answer.TheVariants.{No}
use Rattle.diagnostics.specs.CheckText.{IsCheckedSo, yes_text}

-- If `verify` says no to the bytes of a tape and a declaration, `check` says yes to no certificate for them: the same
-- bytes never get both a no and a yes.
abbrev pub NoIsNeverYes : Type 0 → Type 0
NoIsNeverYes A =
    (w : Witness A) (tape declaration certificate told line : List ℕ) →
    IsVerified (Some tape) (Some declaration) (No w) told →
    IsCheckedSo (Some tape) (Some declaration) (Some certificate) line Done → ⊥

-- If `certify` says yes, `check` says yes: every condition holds for the parts that are read, the program is safe, and
-- the verdict on the same bytes is the yes about that declaration.
abbrev pub CertifiedIsChecked : Type 0
CertifiedIsChecked =
    (tape declaration certificate : List ℕ) (p : Parts) → AreRead tape declaration certificate p → IsValid (case_of p) →
    IsSafe (words_of p) (declaration_of p) → IsCheckedSo (Some tape) (Some declaration) (Some certificate) (yes_text (declaration_of p)) Done

-- If `check` says yes, the only reason that `certify` may have to say no is that memory is refused.
abbrev pub CheckedIsCertified : Type 0
CheckedIsCertified =
    (tape declaration certificate line : List ℕ) (why : CertifyFault) →
    IsCheckedSo (Some tape) (Some declaration) (Some certificate) line Done → IsRefused tape declaration certificate why → why ≡ fault.NoMemory
