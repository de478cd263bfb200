-- Digits in rising order, read one after another.
use Rattle.std.proofs.Common.{◌≡◌, ◌≢◌, ◌⊎◌, ℕ, zero, suc, ◌+◌, ◌-◌, ◌<◌, ◌≤◌, ◌==◌, Bool, true, false, not, ◌&&◌, ◌||◌, List, [], ◌∷◌, ◌++◌, Option, Some, None, refl, ap, ◌∙◌, sym, subst, inl, inr, arith, append_assoc, append-nil}
use Rattle.std.specs.Prelude.{if◌then◌else◌, IfSome, IsTrue}
use Rattle.std.specs.Option.{IsSomeAnd}
use Rattle.std.proofs.lemmas.Bool.{true≢false, false≢true, eq-eqb, ne_eqb, cases_lt, cases_Bool}
use Rattle.std.proofs.Math.Bool.{and-true, and-false, or-false}
use Rattle.wordset.specs.Words.{Words, nothing, some_below}
use Rattle.wordset.proofs.Tests.{some_none_of, none_of_some}
use Rattle.certificate_lines.specs.RisingLists.{EndsBefore}
use Rattle.certificate_lines.specs.FieldSpelling.{digits, offsets_text}
use Rattle.certificate_lines.specs.FieldsLeft.{EndsField}

-- What is written at one number, and at k numbers from n on.
abbrev pub digit_at : Words → ℕ → List ℕ
digit_at s n = if s n then (48 + n) ∷ [] else []

unfoldable pub digits_from : ℕ → ℕ → Words → List ℕ
digits_from zero n s = []
digits_from (suc k) n s = digit_at s n ++ digits_from k (n + 1) s

pub digits_split : (k n : ℕ) (s : Words) → digits (k + n) s ≡ digits n s ++ digits_from k n s
unfolding digits digits_from
digits_split zero n s = let e : 0 + n ≡ n = omega arith in rw e (sym (append-nil (digits n s)))
digits_split (suc k) n s =
    let e : suc k + n ≡ k + suc n = omega arith in
    let f : n + 1 ≡ suc n = omega arith in
    ap (λ m. digits m s) e ∙ (digits_split k (suc n) s ∙ (append_assoc (digits n s) (digit_at s n) (digits_from k (suc n) s) ∙
    ap (λ m. digits n s ++ (digit_at s n ++ digits_from k m s)) (sym f)))

pub digits_none : (s : Words) → digits 0 s ≡ []
unfolding digits
digits_none s = refl

pub all_from : (c : ℕ) (s : Words) → digits c s ≡ digits_from c 0 s
all_from c s =
    let z : c + 0 ≡ c = omega arith in
    ap (λ m. digits m s) (sym z) ∙ (digits_split c 0 s ∙ ap (λ (x : List ℕ). x ++ digits_from c 0 s) (digits_none s))

pub digits_more : (n : ℕ) (s : Words) → digits (n + 1) s ≡ digits n s ++ digit_at s n
unfolding digits
digits_more n s = let e : n + 1 ≡ suc n = omega arith in rw e refl

pub from_none : (n : ℕ) (s : Words) → digits_from 0 n s ≡ []
unfolding digits_from
from_none n s = refl

pub from_more : (k n : ℕ) (s : Words) → digits_from (suc k) n s ≡ digit_at s n ++ digits_from k (n + 1) s
unfolding digits_from
from_more k n s = refl

pub digits_same : (n : ℕ) (s t : Words) → ((v : ℕ) → v < n → s v ≡ t v) → digits n s ≡ digits n t
unfolding digits
digits_same zero s t h = refl
digits_same (suc n) s t h =
    let e : digits n s ≡ digits n t = digits_same n s t (λ v a. h v (omega arith)) in
    let f : s n ≡ t n = h n (omega arith) in rw (e, f) refl

-- No lesser digit than n is next, and no dash.
pub other_digit : (k n x : ℕ) (s : Words) (tail r : List ℕ) → EndsField tail → 32 < x → x < 48 + n → digits_from k n s ++ tail ≡ x ∷ r → ⊥
unfolding digits_from
other_digit zero n x s [] r ends low high e = absurd (cc)
other_digit zero n x s (c ∷ cs) r ends low high e = let z : c ≡ x = cc in omega arith
other_digit (suc k) n x s tail r ends low high e = elim (cases_Bool (s n)) [
  | inl q ↦ (let w : (48 + n) ∷ (digits_from k (n + 1) s ++ tail) ≡ x ∷ r = rw q at e in let z : 48 + n ≡ x = cc in omega arith)
  | inr q ↦ other_digit k (n + 1) x s tail r ends low (omega arith) (rw q at e)
]

-- The digits below n are read, of c digits.
pub record DigitsRead (c n : ℕ) (old now : Option (List ℕ)) (t : Words) : Type 0 where
  pub none : EndsBefore n t
  pub read : IfSome now (λ r. old ≡ Some (digits n t ++ r))
  pub only : (s : Words) (tail : List ℕ) → EndsField tail → old ≡ Some (digits c s ++ tail) →
      ((v : ℕ) → v < n → t v ≡ s v) × (now ≡ Some (digits_from (c - n) n s ++ tail))

pub no_digits : (c : ℕ) (old : Option (List ℕ)) (t : Words) → t ≡ nothing → DigitsRead c 0 old old t
no_digits c old t none = record { none = λ v a. ap (λ (f : Words). f v) none; read = reads old; only = only }
  where
    reads : (o : Option (List ℕ)) → IfSome o (λ r. o ≡ Some (digits 0 t ++ r))
    reads None = tt
    reads (Some r) = ap (λ (x : List ℕ). Some (x ++ r)) (sym (digits_none t))

    only : (s : Words) (tail : List ℕ) → EndsField tail → old ≡ Some (digits c s ++ tail) →
        ((v : ℕ) → v < 0 → t v ≡ s v) × (old ≡ Some (digits_from (c - 0) 0 s ++ tail))
    only s tail ends e =
        let z : c - 0 ≡ c = omega arith in
        let f : digits c s ≡ digits_from (c - 0) 0 s = all_from c s ∙ ap (λ k. digits_from k 0 s) (sym z) in
        (λ v h. absurd (omega arith), e ∙ ap (λ (x : List ℕ). Some (x ++ tail)) f)

-- What is left at the digit n.
left_at : (c n : ℕ) (s : Words) → n < c → digits_from (c - n) n s ≡ digit_at s n ++ digits_from (c - (n + 1)) (n + 1) s
left_at c n s h = let z : c - n ≡ suc (c - (n + 1)) = omega arith in ap (λ k. digits_from k n s) z ∙ from_more (c - (n + 1)) n s

pub at_some : {X : Type 0} (P : X → Type 0) (o : Option X) (x : X) → IfSome o P → o ≡ Some x → P x
at_some P None x h e = absurd (cc)
at_some P (Some y) x h e = let z : y ≡ x = cc in subst P z h

-- The digit n is taken if it's next.
pub digit_tried : (c n : ℕ) (old now next : Option (List ℕ)) (t u : Words) (b : Bool) → n < c → DigitsRead c n old now t →
    (b ≡ true → IsSomeAnd next (λ r. now ≡ Some ((48 + n) ∷ r))) → (b ≡ false → next ≡ now) →
    ((r : List ℕ) → now ≡ Some ((48 + n) ∷ r) → (b ≡ true) × (next ≡ Some r)) →
    u ≡ (λ v. t v || b && v == n) → DigitsRead c (n + 1) old next u
digit_tried c n old now next t u b small h took kept begins more = record { none = none; read = reads b next here took kept; only = only }
  where
    other : (v : ℕ) → v ≢ n → u v ≡ t v
    other v d = ap (λ (f : Words). f v) more ∙ rw (ne_eqb v n d, and-false b) (or-false (t v))

    here : u n ≡ b
    here = ap (λ (f : Words). f n) more ∙ rw (h.none n (omega arith), eq-eqb n n refl) (and-true b)

    none : EndsBefore (n + 1) u
    none v a = other v (λ z. omega arith) ∙ h.none v (omega arith)

    grown : (d : Bool) → u n ≡ d → digits (n + 1) u ≡ digits n t ++ (if d then (48 + n) ∷ [] else [])
    grown d e = digits_more n u ∙ rw (digits_same n u t (λ v a. other v (λ z. omega arith)), e) refl

    reads : (d : Bool) (o : Option (List ℕ)) → u n ≡ d → (d ≡ true → IsSomeAnd o (λ r. now ≡ Some ((48 + n) ∷ r))) → (d ≡ false → o ≡ now) →
        IfSome o (λ r. old ≡ Some (digits (n + 1) u ++ r))
    reads true None e took kept = tt
    reads true (Some r) e took kept =
        at_some (λ r. old ≡ Some (digits n t ++ r)) now _ h.read (took refl) ∙
        ap (λ (x : List ℕ). Some x) (sym (append_assoc (digits n t) ((48 + n) ∷ []) r) ∙ ap (λ (x : List ℕ). x ++ r) (sym (grown true e)))
    reads false o e took kept = rw (kept refl, grown false e, append-nil (digits n t)) h.read

    only : (s : Words) (tail : List ℕ) → EndsField tail → old ≡ Some (digits c s ++ tail) →
        ((v : ℕ) → v < n + 1 → u v ≡ s v) × (next ≡ Some (digits_from (c - (n + 1)) (n + 1) s ++ tail))
    only s tail ends e = go (cases_Bool (s n)) b refl
      where
        left : List ℕ
        left = digits_from (c - (n + 1)) (n + 1) s

        p : ((v : ℕ) → v < n → t v ≡ s v) × (now ≡ Some (digits_from (c - n) n s ++ tail))
        p = h.only s tail ends e

        at : (d : Bool) → s n ≡ d → now ≡ Some ((if d then (48 + n) ∷ [] else []) ++ left ++ tail)
        at d q = p.1 ∙ ap (λ (x : List ℕ). Some (x ++ tail)) (left_at c n s small ∙ ap (λ (x : Bool). (if x then (48 + n) ∷ [] else []) ++ left) q)

        up : u n ≡ s n → (v : ℕ) → v < n + 1 → u v ≡ s v
        up same v a = elim (cases_lt v n) [
          | inl d ↦ other v (λ z. omega arith) ∙ p.0 v d
          | inr d ↦ (let z : v ≡ n = omega arith in rw z same)
        ]

        taken : (o : Option (List ℕ)) → IsSomeAnd o (λ r. now ≡ Some ((48 + n) ∷ r)) → now ≡ Some (left ++ tail) → ⊥
        taken None w q = w
        taken (Some r) w q = other_digit (c - (n + 1)) (n + 1) (48 + n) s tail r ends (omega arith) (omega arith) (cc)

        go : (s n ≡ true) ⊎ (s n ≡ false) → (d : Bool) → b ≡ d → ((v : ℕ) → v < n + 1 → u v ≡ s v) × (next ≡ Some (left ++ tail))
        go (inl has) d q = let w : (b ≡ true) × (next ≡ Some (left ++ tail)) = begins (left ++ tail) (at true has) in (up (here ∙ (w.0 ∙ sym has)), w.1)
        go (inr lacks) true q = absurd (taken next (took q) (at false lacks))
        go (inr lacks) false q = (up (here ∙ (q ∙ sym lacks)), kept q ∙ at false lacks)

pub all_digits : (c n : ℕ) (old now : Option (List ℕ)) (t : Words) → c ≤ n → n ≤ c → DigitsRead c n old now t →
    (s : Words) (tail : List ℕ) → EndsField tail → old ≡ Some (digits c s ++ tail) →
    ((v : ℕ) → v < c → t v ≡ s v) × (now ≡ Some tail)
all_digits c n old now t low high h s tail ends e =
    let p : ((v : ℕ) → v < n → t v ≡ s v) × (now ≡ Some (digits_from (c - n) n s ++ tail)) = h.only s tail ends e in
    let z : c - n ≡ 0 = omega arith in
    (λ v a. p.0 v (omega arith), rw (z, from_none n s) at p.1)

-- What a call that reads digits says.
pub record DigitsAre (c : ℕ) (old now : Option (List ℕ)) (t : Words) : Type 0 where
  pub read : IfSome now (λ r. old ≡ Some (digits c t ++ r))
  pub only : (s : Words) (tail : List ℕ) → EndsField tail → old ≡ Some (digits c s ++ tail) →
      ((v : ℕ) → v < c → t v ≡ s v) × (now ≡ Some tail)

-- Links with none.
pub no_links : {X : Type 0} (old now : Option (List ℕ)) (t u : Words) → DigitsAre 2 old now t → ((v : ℕ) → v < 2 → u v ≡ t v) →
    some_below 2 u ≡ false → (s : Words) (tail : List ℕ) → some_below 2 s ≡ true → EndsField tail → old ≡ Some (digits 2 s ++ tail) → X
no_links old now t u g same none s tail some ends e =
    let p : ((v : ℕ) → v < 2 → t v ≡ s v) × (now ≡ Some tail) = g.only s tail ends e in
    absurd (true≢false (sym some ∙ some_none_of 2 s (λ v h. sym (same v h ∙ p.0 v h) ∙ none_of_some 2 u none v h)))

pub links_read : (old now : Option (List ℕ)) (t u : Words) → DigitsAre 2 old now t → ((v : ℕ) → v < 2 → u v ≡ t v) →
    IfSome now (λ r. old ≡ Some (digits 2 u ++ r))
links_read old now t u g same = rw (digits_same 2 u t same) g.read

-- Offsets with none.
pub no_offsets : (t : Words) → ((v : ℕ) → v < 8 → t v ≡ false) → offsets_text t ≡ 45 ∷ []
no_offsets t none = rw (some_none_of 8 t none) refl

pub some_offsets : (t : Words) → some_below 8 t ≡ true → offsets_text t ≡ digits 8 t
some_offsets t e = rw e refl

pub by_offsets : (s : Words) → (some_below 8 s ≡ true) ⊎ ((v : ℕ) → v < 8 → s v ≡ false)
by_offsets s = elim (cases_Bool (some_below 8 s)) [ inl e ↦ inl e | inr e ↦ inr (none_of_some 8 s e) ]

-- What a call that reads offsets says.
pub record OffsetsRead (old now : Option (List ℕ)) (t : Words) : Type 0 where
  pub read : IfSome now (λ r. old ≡ Some (offsets_text t ++ r))
  pub only : (s : Words) (tail : List ℕ) → EndsField tail → old ≡ Some (offsets_text s ++ tail) → now ≡ Some tail

pub dash_read : (old now : Option (List ℕ)) (t : Words) → t ≡ nothing → IsSomeAnd now (λ r. old ≡ Some (45 ∷ r)) →
    ((r : List ℕ) → old ≡ Some (45 ∷ r) → (true ≡ true) × (now ≡ Some r)) → OffsetsRead old now t
dash_read old None t none took begins = absurd took
dash_read old (Some r) t none took begins = record { read = rw (no_offsets t (λ v h. ap (λ (f : Words). f v) none)) took; only = only }
  where
    only : (s : Words) (tail : List ℕ) → EndsField tail → old ≡ Some (offsets_text s ++ tail) → Some r ≡ Some tail
    only s tail ends e = elim (by_offsets s) [
      | inl some ↦ absurd (other_digit 8 0 45 s tail r ends (omega arith) (omega arith) (
          let f : offsets_text s ≡ digits_from 8 0 s = some_offsets s some ∙ all_from 8 s in
          let g : old ≡ Some (digits_from 8 0 s ++ tail) = e ∙ ap (λ (x : List ℕ). Some (x ++ tail)) f in cc))
      | inr empty ↦ (begins tail (e ∙ ap (λ (x : List ℕ). Some (x ++ tail)) (no_offsets s empty))).1
    ]

pub offsets_read : (old mid now : Option (List ℕ)) (t : Words) → mid ≡ old → ((r : List ℕ) → old ≡ Some (45 ∷ r) → (false ≡ true) × (mid ≡ Some r)) →
    DigitsAre 8 mid now t → some_below 8 t ≡ true → OffsetsRead old now t
offsets_read old mid now t same begins g some = record {
  read = rw (some_offsets t some, ← same) g.read;
  only = λ s tail ends e. elim (by_offsets s) [
    | inl full ↦ (g.only s tail ends (same ∙ (e ∙ ap (λ (x : List ℕ). Some (x ++ tail)) (some_offsets s full)))).1
    | inr empty ↦ absurd (false≢true (begins tail (e ∙ ap (λ (x : List ℕ). Some (x ++ tail)) (no_offsets s empty))).0)
  ];
}

pub offsets_fail : {X : Type 0} (old mid now : Option (List ℕ)) (t : Words) → mid ≡ old → ((r : List ℕ) → old ≡ Some (45 ∷ r) → (false ≡ true) × (mid ≡ Some r)) →
    DigitsAre 8 mid now t → ((v : ℕ) → v < 8 → t v ≡ false) → (s : Words) (tail : List ℕ) → EndsField tail → old ≡ Some (offsets_text s ++ tail) → X
offsets_fail old mid now t same begins g none s tail ends e = elim (by_offsets s) [
  | inl full ↦ (let p : ((v : ℕ) → v < 8 → t v ≡ s v) × (now ≡ Some tail) =
      g.only s tail ends (same ∙ (e ∙ ap (λ (x : List ℕ). Some (x ++ tail)) (some_offsets s full))) in
      absurd (true≢false (sym full ∙ some_none_of 8 s (λ v h. sym (p.0 v h) ∙ none v h))))
  | inr empty ↦ absurd (false≢true (begins tail (e ∙ ap (λ (x : List ℕ). Some (x ++ tail)) (no_offsets s empty))).0)
]

pub not_true : (b : Bool) → true ≡ not b → b ≡ false
not_true true e = e
not_true false e = refl

-- Not each offset is missing.
pub has_offset : (t : Words) → EndsBefore 8 t → (((v : ℕ) → v < 64 → t v ≡ false) → IsTrue false) → some_below 8 t ≡ true
has_offset t ends h = elim (by_offsets t) [
  | inl some ↦ some
  | inr none ↦ absurd (false≢true (h (λ v lt. elim (cases_lt v 8) [ inl small ↦ none v small | inr past ↦ ends v past ])))
]
