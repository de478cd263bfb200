-- Tape, declaration and certificate of any version are read in one way: whatever parts the bytes have, they make one case, of
-- which one condition fails first.
use Rattle.std.proofs.Common.{◌≡◌, ℕ, List, Ok, Err, take, sym, refl, ap, ◌∙◌, subst}
use Rattle.bin_tape.proofs.OneAnswer.{one_tape}
use Rattle.processor.specs.Runs.{Image}
use Rattle.peripherals.specs.Loading.{image_of}
use Rattle.declaration.specs.Declaration.{Declaration}
use Rattle.declaration.specs.Text.{Declares, ListsRoutines}
use Rattle.declaration.proofs.AnswerLemmas.{one_declaration}
use Rattle.facts.specs.declared.Condition.{Condition}
use Rattle.certificate_lines.specs.Certificate.{Certificate}
use Rattle.certificate_lines.specs.CertificateInCode as certified
use Rattle.certificate_lines.specs.Reading.{Text, certificate_of, reading}
use Rattle.certificate_lines.specs.declared.CertificateFault.{CertificateFault}
use Rattle.judge.specs.Landing.{Case}
use Rattle.judge.specs.Conditions.{IsFirst, IsValid}
use Rattle.judge.specs.Certifying.{Parts, AreRead, IsTapeOf, case_of, declaration_of}
use Rattle.judge.specs.Laws.{TextsMakeOneCase}
use Rattle.judge.specs.declared.judging.Refusal.{Refusal}
use Rattle.judge.proofs.FirstLemmas.{one_first}

-- ---- one case

abbrev judged_by : Image → Declaration → Certificate → Case
judged_by i d c = record { image = i; declaration = d; certificate = c }

same_case : {i k : Image} {d e : Declaration} {c f : Certificate} → i ≡ k → d ≡ e → c ≡ f → judged_by i d c ≡ judged_by k e f
same_case words promised claims = rw (words, promised, claims) refl

same_claims : (c : List ℕ) (one other : Text) → reading c ≡ Ok one → reading c ≡ Ok other → certificate_of one ≡ certificate_of other
same_claims c one other read also =
    let both : Ok one ≡ Ok other = sym read ∙ also in
    let lines : one ≡ other = cc in
    ap certificate_of lines

pub one_case : TextsMakeOneCase
one_case t d c p q one other =
    same_case (ap image_of (one_tape (take 65536 t) p.image q.image one.is_tape other.is_tape)) (one_declaration d (declaration_of p) (declaration_of q) one.declares other.declares)
    (same_claims c (certified.meaning p.certificate) (certified.meaning q.certificate) one.is_certificate other.is_certificate)

pub valid_too : {t d c : List ℕ} (p q : Parts) → AreRead t d c p → AreRead t d c q → IsValid (case_of p) → IsValid (case_of q)
valid_too {t} {d} {c} p q one other = subst (λ j. IsValid j) (one_case t d c p q one other)

pub first_too : {t d c : List ℕ} (p q : Parts) → AreRead t d c p → AreRead t d c q → (r : Refusal) → IsFirst (case_of p) r.condition r.address →
    IsFirst (case_of q) r.condition r.address
first_too {t} {d} {c} p q one other r = subst (λ j. IsFirst j r.condition r.address) (one_case t d c p q one other)

-- ---- one condition is the first

abbrev refusal : Condition → ℕ → Refusal
refusal v a = record { condition = v; address = a }

same_refusal : {v u : Condition} {a b : ℕ} → v ≡ u → a ≡ b → refusal v a ≡ refusal u b
same_refusal e k = rw (e, k) refl

pub one_refusal : {t d c : List ℕ} (p q : Parts) → AreRead t d c p → AreRead t d c q → (r s : Refusal) →
    IsFirst (case_of p) r.condition r.address → IsFirst (case_of q) s.condition s.address → s ≡ r
one_refusal p q one other r s first found =
    let same : (s.condition ≡ r.condition) × (s.address ≡ r.address) =
    one_first (case_of q) s.condition r.condition s.address r.address found (first_too p q one other r first) in
    let whole : refusal s.condition s.address ≡ refusal r.condition r.address = same_refusal same.0 same.1 in
    whole

-- no first condition fails where all hold
pub none_fails : {j : Case} {v : Condition} {a : ℕ} → IsValid j → IsFirst j v a → ⊥
none_fails {j} {v} {a} valid first = first.fails (valid v a first.asked)

-- ---- the parts that are read

pub are_read : {t d c : List ℕ} (p : Parts) → IsTapeOf t p.image → Declares d (declaration_of p) → ListsRoutines d p.declaration.routines →
    reading c ≡ Ok (certified.meaning p.certificate) → AreRead t d c p
are_read p tape declares lists read = record { is_tape = tape; declares = declares; lists = lists; is_certificate = read }

-- a text that is read as a certificate has no fault
pub not_both : {A : Type 0} (c : List ℕ) (text : Text) (f : CertificateFault) → reading c ≡ Ok text → reading c ≡ Err f → A
not_both c text f read fails = let both : Ok text ≡ Err f = sym read ∙ fails in absurd (cc)

pub one_fault : (c : List ℕ) (f g : CertificateFault) → reading c ≡ Err f → reading c ≡ Err g → f ≡ g
one_fault c f g one other = let both : Err f ≡ Err g = sym one ∙ other in cc
