-- What is found.
use Rattle.std.specs.Prelude.{ℕ, ◌≡◌, ◌≤◌, List, Option, Result, IfOk, IfErr}
use Rattle.peripherals.specs.Loading.{image_of}
use Rattle.declaration.specs.DeclarationInCode as declared
use Rattle.policy.specs.Runs.{IsSafe}
use Rattle.certificate_lines.specs.CertificateInCode as certified
use Rattle.certificate_lines.specs.declared.Version.{Version}
use Rattle.certificate.specs.Exact.{AreLines}
use Rattle.turns.specs.Counts.{Count, IsSpentUp}
use Rattle.turns.specs.declared.GuessFault.{GuessFault}
use Rattle.judge.specs.Conditions.{IsValid}
use Rattle.judge.specs.Judged.{judged}

-- The judge accepts the certificate, for a tape's words and a declaration: every condition holds of it, and so the program
-- is safe.
pub record IsAccepted (image : List (Option ℕ)) (d : declared.Kept) (c : certified.Kept) : Type 0 where
  pub valid : IsValid (judged image d (certified.claims c))
  pub safe : IsSafe (image_of image) (declared.meaning d)

-- What a search for a certificate of one version comes to, with the turns that it had and those that it has left: what it
-- finds is in its lines, of that version, and accepted by the judge. The number of turns stays, none comes back, and no
-- more are spent than there are; only if all are spent is it reported that they are.
pub record Finds (image : List (Option ℕ)) (d : declared.Kept) (version : Version) (old new : Count) (result : Result certified.Kept GuessFault) : Type 0 where
  pub lines : IfOk result (λ c. AreLines (certified.meaning c))
  pub version_is : IfOk result (λ c. (certified.meaning c).version ≡ version)
  pub accepted : IfOk result (IsAccepted image d)
  pub limit : new.limit ≡ old.limit
  pub rises : old.spent ≤ new.spent
  pub within : new.spent ≤ new.limit
  pub spent : IfErr result (IsSpentUp new)
