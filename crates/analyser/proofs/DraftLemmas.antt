-- A draft's lines, address by address.
use Rattle.std.proofs.Common.{◌≡◌, ℕ, ◌<◌, ◌+◌, ◌||◌, Bool, true, false, List, [], inl, inr, refl, ap, sym, ◌∙◌, subst, arith}
use Rattle.std.proofs.lemmas.Bool.{cases_eq}
use Rattle.wordset.specs.Words.{IsFirstFrom}
use Rattle.wordset.proofs.Tests.{or_left, or_right, some_from}
use Rattle.domain.specs.Facts.{Fact}
use Rattle.declaration.specs.Declaration.{Declaration}
use Rattle.certificate_lines.specs.Certificate.{Certificate, has_any, has_exits}
use Rattle.certificate_lines.specs.CertificateInCode.{Follows}
use Rattle.analyser.specs.Attempts.{IsInSomeBody, StandsRight}

-- What holds below a number and at it holds below the next.
pub one_more : (P : ℕ → Type 0) (n m : ℕ) → ((a : ℕ) → a < n → P a) → m ≡ n → P m → (a : ℕ) → a < n + 1 → P a
one_more P n m below same here a lt = elim (cases_eq a n) [
  | inl e ↦ subst P (same ∙ sym e) here
  | inr q ↦ below a (omega arith)
]

-- There is a fact where one is passed over.
pub any_skipped : (b : Bool) (fs all rest : List Fact) → fs ≡ all → (b ≡ false → fs ≡ []) → (b ≡ true → Follows fs rest) → b ≡ has_any all
any_skipped true fs all rest same none next = sym (ap has_any (sym same ∙ (next refl).1))
any_skipped false fs all rest same none next = sym (ap has_any (sym same ∙ none refl))

-- At an entry a routine and exits may be claimed.
pub entry_right : (d : Declaration) (c : Certificate) (a : ℕ) → (has_any (c.facts a) ≡ true → IsInSomeBody d a) → d.entry a ≡ true → StandsRight d c a
entry_right d c a facts entry = record { facts = facts; routine = λ listed. entry; exits = λ some. entry }

-- An exit for an offset is one of the entry.
pub has_exit : (c : Certificate) (e o : ℕ) → (o < 64) × IsFirstFrom 0 (λ x. has_any (c.exits e x)) o → has_exits c e ≡ true
has_exit c e o found = some_from 64 (λ x. has_any (c.exits e x)) o found.0 found.1.within

pub there_is_fact : (a b : Bool) → a ≡ true → (a || b) ≡ true
there_is_fact a b is = or_left a b is

pub there_is_exit : (a b : Bool) → b ≡ true → (a || b) ≡ true
there_is_exit a b is = or_right a b is
