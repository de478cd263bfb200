-- The same bytes never get both a no and a yes, and `certify` says yes exactly when `check` does.
use Rattle.std.proofs.Common.{ℕ, ◌≡◌, List, Option, Some, Result, Ok, Err, refl, sym, ap, ◌∙◌, subst, take}
use Rattle.bin_tape.proofs.OneAnswer.{one_tape, no_fault}
use Rattle.certificate_lines.specs.CertificateInCode as certified
use Rattle.certificate_lines.specs.Reading.{Text, reading}
use Rattle.certificate.proofs.SumExactLemmas.{reading_law}
use Rattle.declaration.proofs.AnswerLemmas.{one_declaration, no_fault as no_declaration_fault}
use Rattle.declaration.specs.Declaration.{Declaration}
use Rattle.judge.specs.Certifying.{AreRead, Parts, case_of, declaration_of}
use Rattle.judge.specs.Conditions.{IsValid}
use Rattle.judge.specs.Landing.{Case}
use Rattle.judge.specs.declared.verdict.CertifyFault.TheVariants as fault
use Rattle.judge.proofs.ReadingLemmas.{none_fails, not_both}
use Rattle.judge.specs.declared.judging.Refusal.{Refusal}
use Rattle.peripherals.specs.Loading.{image_of}
use Rattle.policy.specs.Runs.{IsSafe}
use Rattle.refuter.proofs.TapeLemmas.{tape_puts_words}
use Rattle.refuter.proofs.UnsafeLemmas.{broken_is_unsafe}
use Rattle.command_parts.specs.declared.status.Status.TheVariants.{Done}
use Rattle.search_commands.specs.Laws.{CertifiedIsChecked, CheckedIsCertified, NoIsNeverYes}
use Rattle.diagnostics.proofs.CheckLemmas.{has_certificate}
use Rattle.diagnostics.specs.CertificateInputs.{IsTextOf}
use Rattle.diagnostics.specs.CheckText.{IsCheckedSo, IsVerdict, IsYes, checked_case, verdict_status}

-- a verdict with the status of success is a yes
yes_of : (j : Case) (verdict : Result (Unit {0}) Refusal) → IsVerdict j verdict → Done ≡ verdict_status verdict → IsYes j
yes_of j (Ok u) holds status = holds
yes_of j (Err r) first status = cc

-- what is safe as it was read once is safe as it was read another time
safe_alike : (i k : List (Option ℕ)) (d e : Declaration) → i ≡ k → d ≡ e → IsSafe (image_of i) d → IsSafe (image_of k) e
safe_alike i k d e words promised safe = rw (words, promised) at safe

pub no_is_never_yes : (A : Type 0) → NoIsNeverYes A
no_is_never_yes A w tape declaration certificate told line said checked =
    let accepted : IsYes (checked_case checked.image checked.declaration checked.lines) = yes_of _ checked.is.verdict checked.is.is checked.is.status_is in
    let words : checked.image ≡ said.image = one_tape (take 65536 tape) checked.image said.image checked.tape said.tape in
    let promised : checked.declaration ≡ said.declaration = one_declaration declaration checked.declaration said.declaration checked.declares said.declares in
    let safe : IsSafe (image_of said.image) said.declaration = safe_alike checked.image said.image checked.declaration said.declaration words promised accepted.safe in
    broken_is_unsafe (image_of said.image) said.declaration w.events.items w.event w.rule (tape_puts_words (take 65536 tape) said.image said.tape) said.is.answers.0 safe

-- ---- `certify`

pub certified_is_checked : CertifiedIsChecked
certified_is_checked tape declaration certificate p read valid safe = record {
  image = p.image;
  tape = read.is_tape;
  declaration = declaration_of p;
  declares = read.declares;
  lines = certified.meaning p.certificate;
  claims = has_certificate (Some certificate) p.certificate read.is_certificate;
  is = record { verdict = Ok tt; is = record { valid = valid; safe = safe }; line_is = refl; status_is = refl };
}

-- the text of a certificate is read as that certificate
read_of : (bytes : List ℕ) (lines : Text) → IsTextOf bytes lines → reading bytes ≡ Ok lines
read_of bytes lines is =
    ap reading is.text_is ∙ reading_law.text lines is.lines_are (rw is.text_is at is.few)

same_case : {i k : List (Option ℕ)} {d e : Declaration} {c f : Text} → i ≡ k → d ≡ e → c ≡ f → checked_case i d c ≡ checked_case k e f
same_case words promised claims = rw (words, promised, claims) refl

module _ (tape declaration certificate line : List ℕ) (checked : IsCheckedSo (Some tape) (Some declaration) (Some certificate) line Done) where
  accepted : IsYes (checked_case checked.image checked.declaration checked.lines)
  accepted = yes_of _ checked.is.verdict checked.is.is checked.is.status_is

  -- no condition fails for what is read
  holds : (p : Parts) → AreRead tape declaration certificate p → IsValid (case_of p)
  holds p read =
      let words : checked.image ≡ p.image = one_tape (take 65536 tape) checked.image p.image checked.tape read.is_tape in
      let promised : checked.declaration ≡ declaration_of p = one_declaration declaration checked.declaration (declaration_of p) checked.declares read.declares in
      let both : Ok checked.lines ≡ Ok (certified.meaning p.certificate) = sym (read_of certificate checked.lines checked.claims) ∙ read.is_certificate in
      let claims : checked.lines ≡ certified.meaning p.certificate = cc in
      subst IsValid (same_case words promised claims) accepted.valid

pub checked_is_certified : CheckedIsCertified
checked_is_certified t d c line (fault.Tape f) checked refused = absurd (no_fault 65536 t checked.image f checked.tape refused)
checked_is_certified t d c line (fault.Declaration f) checked refused = absurd (no_declaration_fault d checked.declaration f refused.2 checked.declares refused.1)
checked_is_certified t d c line (fault.Certificate f) checked refused = not_both c checked.lines f (read_of c checked.lines checked.claims) refused.2
checked_is_certified t d c line (fault.Refused r) checked refused = absurd (none_fails (holds t d c line checked refused.0 refused.1) refused.2)
checked_is_certified t d c line fault.NoMemory checked refused = refl
