-- What `check` reads and counts.
use Rattle.std.proofs.Common.{ℕ, suc, ◌+◌, length, map, arith, ◌≡◌, ◌<◌, ◌==◌, ◌&&◌, ◌||◌, ◌⊎◌, ◌∷◌, ◌++◌, [], Bool, true, false, List, Option, Some, None, refl, sym, ◌∙◌, ap, inl, inr}
use Rattle.std.specs.Cmp.{both_ways}
use Rattle.std.specs.Prelude.{decimal, nat_lt, IfSome, OnOk, MatchResult, Result, Ok, Err}
use Rattle.std.proofs.lemmas.Bool.{true≢false, and_from, cases_lt, eq-eqb, le-ltb, lt-ltb, or_left, or_right}
use Rattle.wordset.specs.Words.{Words, SameWords, some_below}
use Rattle.policy.specs.Runs.{IsSafe}
use Rattle.judge.specs.Landing.{Case}
use Rattle.judge.specs.Conditions.{IsValid, IsFirst}
use Rattle.judge.specs.declared.judging.Refusal.{Refusal}
use Rattle.diagnostics.specs.CheckText.{counted, IsVerdict}
use Rattle.wordset.specs.Lanes.{words}
use Rattle.wordset.proofs.Counts.{how_many_same}
use Rattle.wordset.proofs.Tests.{some_from, some_none_of, some_to}
use Rattle.declaration.specs.declared.Routine.{Routine}
use Rattle.declaration.specs.DeclarationInCode.{bodies, entries, in_routines}
use Rattle.certificate_lines.specs.declared.CertificateFault.{CertificateFault}
use Rattle.certificate_lines.specs.declared.CertificateFault.TheVariants as faults
use Rattle.certificate_lines.specs.CertificateInCode.{Kept, meaning}
use Rattle.certificate_lines.specs.Reading.{reading}
use Rattle.certificate_lines.specs.Serving.{AsksForMemory}
use Rattle.certificate.proofs.SumExactLemmas.{reading_law}
use Rattle.streams.specs.Bytes.{Gave}
use Rattle.diagnostics.specs.CertificateFaults.{IsCertificateInputFault}
use Rattle.command_parts.specs.Faults.{fault_of_certificate}
use Rattle.diagnostics.specs.CertificateInputs.{FailsInCertificate, HasCertificate}
use Rattle.command_parts.specs.Inputs.{input}

pub has_certificate : (had : Option (List ℕ)) (c : Kept) → IfSome had (λ bytes. reading bytes ≡ Ok (meaning c)) → HasCertificate had (meaning c)
has_certificate None c read = tt
has_certificate (Some bytes) c read =
    let t = reading_law.lines bytes (meaning c) read in record { lines_are = t.form; text_is = t.text; few = t.few }

-- the fault of what a source had
abbrev pub Told : Option (List ℕ) → CertificateFault → Type 0
Told had fault = (fault ≡ faults.NoMemory) ⊎ ((fault ≡ faults.ReadFault) ⊎ IfSome had (λ bytes. reading bytes ≡ Err fault))

told_of : (had : Option (List ℕ)) (fault : CertificateFault) → (fault ≡ faults.NoMemory → ⊥) → (fault ≡ faults.ReadFault → ⊥) → Told had fault →
    IfSome had (λ bytes. reading bytes ≡ Err fault)
told_of had fault memory read (inl e) = absurd (memory e)
told_of had fault memory read (inr (inl e)) = absurd (read e)
told_of had fault memory read (inr (inr h)) = h

pub certificate_fault_is : (fault : CertificateFault) (failed : Bool) (had left : Option (List ℕ)) →
    Told had fault → (fault ≡ faults.NoMemory → Gave had left AsksForMemory) → (fault ≡ faults.ReadFault → FailsInCertificate (input failed had left)) → IsCertificateInputFault (input failed had left) (fault_of_certificate fault)
certificate_fault_is faults.NoMemory failed had left h wanted read = wanted refl
certificate_fault_is faults.ReadFault failed had left h wanted read = read refl
certificate_fault_is faults.Version failed had left h wanted read = told_of had faults.Version (λ e. cc) (λ e. cc) h
certificate_fault_is (faults.BadLine n) failed had left h wanted read = told_of had (faults.BadLine n) (λ e. cc) (λ e. cc) h
certificate_fault_is (faults.Order n) failed had left h wanted read = told_of had (faults.Order n) (λ e. cc) (λ e. cc) h
certificate_fault_is faults.TooMany failed had left h wanted read = told_of had faults.TooMany (λ e. cc) (λ e. cc) h

self_eq : (n : ℕ) → (n == n) ≡ true
self_eq n = eq-eqb n n refl

-- a routine whose body has the cell
pub record HasBody (rs : List Routine) (a : ℕ) : Type 0 where
  pub entry : ℕ
  pub is_entry : entries rs entry ≡ true
  pub in_body : bodies rs entry a ≡ true

body_here : (r : Routine) (rs : List Routine) (a : ℕ) (here : Bool) → words r.body a ≡ here → (in_routines rs a ≡ true → HasBody rs a) →
    (here || in_routines rs a) ≡ true → HasBody (r ∷ rs) a
body_here r rs a true is rest h = record {
  entry = r.entry;
  is_entry = or_left (r.entry == r.entry) _ (self_eq r.entry);
  in_body = or_left (r.entry == r.entry && words r.body a) _ (and_from (r.entry == r.entry) (words r.body a) (self_eq r.entry) is);
}
body_here r rs a false is rest h =
    let more = rest h in
    record {
      entry = more.entry;
      is_entry = or_right (r.entry == more.entry) _ more.is_entry;
      in_body = or_right (r.entry == more.entry && words r.body a) _ more.in_body;
    }

body_of_any : (rs : List Routine) (a : ℕ) → in_routines rs a ≡ true → HasBody rs a
body_of_any [] a h = absurd (true≢false (sym h))
body_of_any (r ∷ rs) a h = body_here r rs a (words r.body a) refl (λ more. body_of_any rs a more) h

any_here : (e b rest any : Bool) → (rest ≡ true → any ≡ true) → ((e && b) || rest) ≡ true → (b || any) ≡ true
any_here e true rest any more h = refl
any_here true false rest any more h = more h
any_here false false rest any more h = more h

any_of_body : (rs : List Routine) (e a : ℕ) → bodies rs e a ≡ true → in_routines rs a ≡ true
any_of_body [] e a h = absurd (true≢false (sym h))
any_of_body (r ∷ rs) e a h = any_here (r.entry == e) (words r.body a) (bodies rs e a) (in_routines rs a) (λ more. any_of_body rs e a more) h

pub any_body_is : (rs : List Routine) (a : ℕ) → ((e : ℕ) → entries rs e ≡ true → e < 4096) → in_routines rs a ≡ some_below 4096 (λ e. bodies rs e a)
any_body_is rs a small =
    both_ways (in_routines rs a) (some_below 4096 (λ e. bodies rs e a))
    (λ h. let found = body_of_any rs a h in some_from 4096 (λ e. bodies rs e a) found.entry (small found.entry found.is_entry) found.in_body)
    (λ h. let found = some_to 4096 (λ e. bodies rs e a) h in any_of_body rs found.at a found.holds)

-- sets that agree have as many words
pub count_pushed : (old new : List ℕ) (s t : Words) (name : List ℕ) → SameWords s t → new ≡ old ++ counted s name → new ≡ old ++ counted t name
count_pushed old new s t name same is = is ∙ ap (λ (n : ℕ). old ++ (decimal n ++ name)) (how_many_same 4096 s t same)

-- a set that has the cells of all bodies, said of what is declared
pub all_bodies : (main : List ℕ) (rs : List Routine) (cells : List ℕ) → ((e : ℕ) → entries rs e ≡ true → e < 4096) →
    ((a : ℕ) → a < 4096 → words cells a ≡ (words main a || in_routines rs a)) →
    (a : ℕ) → a < 4096 → words cells a ≡ (words main a || some_below 4096 (λ e. bodies rs e a))
all_bodies main rs cells small same a less =
    same a less ∙ ap (λ (b : Bool). words main a || b) (any_body_is rs a small)

-- what the judge answers is the verdict
pub verdict_is : (j : Case) (verdict : Result (Unit {0}) Refusal) → MatchResult verdict (λ _. IsValid j) (λ r. IsFirst j r.condition r.address) →
    OnOk verdict (IsSafe j.image j.declaration) → IsVerdict j verdict
verdict_is j (Ok u) exact safe = record { valid = exact; safe = safe }
verdict_is j (Err r) exact safe = exact

-- as many lines as are kept
mapped_length : {A B : Type 0} (f : A → B) (xs : List A) → length (map f xs) ≡ length xs
mapped_length f [] = refl
mapped_length f (x ∷ xs) = ap suc (mapped_length f xs)

pub lines_counted : {A B C D : Type 0} (f : A → B) (g : C → D) (xs : List A) (ys : List C) (hs : List B) (rs : List D) (m n : ℕ) → m ≡ length xs → n ≡ length ys → map f xs ≡ hs → map g ys ≡ rs → m + n ≡ length hs + length rs
lines_counted f g xs ys hs rs m n count other is same =
    let a : length (map f xs) ≡ length xs = mapped_length f xs in
    let b : length (map g ys) ≡ length ys = mapped_length g ys in
    let c : length (map f xs) ≡ length hs = ap length is in
    let d : length (map g ys) ≡ length rs = ap length same in
    omega (arith, a, b, c, d, count, other)

-- ---- offsets above 7

-- there is none
pub none_above : (offsets : Words) → ((o : ℕ) → 7 < o → o < 64 → offsets o ≡ false) → some_below 64 (λ o. nat_lt 7 o && offsets o) ≡ false
none_above offsets none = some_none_of 64 (λ o. nat_lt 7 o && offsets o) (λ o small. elim (cases_lt 7 o) [
  | inl h ↦ rw (lt-ltb 7 o h) (none o h small)
  | inr h ↦ rw (le-ltb 7 o h) refl
])

-- there is this one
pub one_above : (offsets : Words) (o : ℕ) → 7 < o → o < 64 → offsets o ≡ true → some_below 64 (λ k. nat_lt 7 k && offsets k) ≡ true
one_above offsets o high small is = some_from 64 (λ k. nat_lt 7 k && offsets k) o small (rw (lt-ltb 7 o high) is)
