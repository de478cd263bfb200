-- The order of the conditions, and what holds when those at all addresses do.
use Rattle.std.proofs.Common.{◌≡◌, ℕ, ◌+◌, ◌*◌, ◌<◌, ◌≤◌, Bool, true, false, ◌⊎◌, Option, None, Some, refl, sym, ap, ◌∙◌, subst, inl, inr, arith, lit≤, lit<}
use Rattle.std.specs.Prelude.{if◌then◌else◌, ◌||◌, ◌↔◌, IsTrue, MatchOption}
use Rattle.std.proofs.lemmas.Bool.{cases_order, cases_lt, true≢false}
use Rattle.wordset.specs.Words.{IsFirstFrom, HasNoneFrom}
use Rattle.certificate_lines.specs.Certificate.{Certificate, claimed, names_routine, has_any}
use Rattle.facts.specs.declared.Condition.{Condition}
use Rattle.facts.specs.declared.Condition.TheVariants.{V1, V2}
use Rattle.judge.specs.ConditionOrder.{is_first_condition, place_among, order}
use Rattle.judge.specs.Landing.{Case}
use Rattle.judge.specs.Conditions.{HoldsAt, IsAsked, IsAskedAs, IsValid, IsFirst}
use Rattle.judge.specs.Asked.{HoldsBetween, FailsFirst, FailsAtLine}

-- a condition is the one on the start, or it has a later place
pub record IsLater (v : Condition) : Type 0 where
  pub later : is_first_condition v ≡ false
  pub low : 1 ≤ place_among v
  pub high : place_among v < 16

pub start_or_later : (v : Condition) → (v ≡ V1) ⊎ IsLater v
start_or_later V1 = inl refl
start_or_later _ = inr (record { later = refl; low = lit≤ tt; high = lit< tt })

is_later : (v : Condition) → 1 ≤ place_among v → IsLater v
is_later V1 le = absurd (omega arith)
is_later _ le = record { later = refl; low = lit≤ tt; high = lit< tt }

second_or_later : (v : Condition) → 1 ≤ place_among v → (v ≡ V2) ⊎ (2 ≤ place_among v)
second_or_later V1 le = absurd (omega arith)
second_or_later V2 le = inl refl
second_or_later _ le = inr (lit≤ tt)

-- the conditions on words come after the one on lines
pub after_lines : (j : Case) (n a : ℕ) → HoldsAt j V2 a → HoldsBetween j 2 n a → HoldsBetween j 1 n a
after_lines j n a two h v le lt =
    elim (second_or_later v le) [ inl e ↦ subst (λ u. HoldsAt j u a) (sym e) two | inr l ↦ h v l lt ]

-- the condition on the start, where it is asked
at_start : (j : Case) (v : Condition) (a : ℕ) → HoldsAt j V1 j.declaration.start → v ≡ V1 → IsAsked j v a → HoldsAt j v a
at_start j v a s e =
    let P : Condition → Type 0 = λ u. IsAsked j u a → HoldsAt j u a in
    let here : a ≡ j.declaration.start → HoldsAt j V1 a = λ q. subst (λ b. HoldsAt j V1 b) (sym q) s in
    subst P (sym e) here

at_line : (j : Case) (v : Condition) (a : ℕ) → IsLater v → IsAsked j v a → (a < 4096) × (claimed j.certificate a ≡ true)
at_line j v a l asked = subst (λ b. IsAskedAs b j a) l.later asked

-- all conditions hold
pub is_valid : (j : Case) → HoldsAt j V1 j.declaration.start → ((a : ℕ) → a < 4096 → (claimed j.certificate a ≡ true) → HoldsBetween j 1 16 a) → IsValid j
is_valid j s h v a asked = elim (start_or_later v) [
  | inl e ↦ at_start j v a s e asked
  | inr l ↦ (let line = at_line j v a l asked in h a line.0 line.1 v l.low l.high)
]

pub order_of : (v : Condition) (a : ℕ) → IsLater v → order v a ≡ 16 * a + place_among v
order_of v a l = ap (λ b. if b then 0 else 16 * a + place_among v) l.later

-- the first that fails, at an address of a line
earlier : (j : Case) (a b : ℕ) (v u : Condition) → ((c : ℕ) → c < a → (claimed j.certificate c ≡ true) → HoldsBetween j 1 16 c) → FailsFirst j 1 a v → IsLater u → place_among v < 16 →
    (claimed j.certificate b ≡ true) → 16 * b + place_among u < 16 * a + place_among v → HoldsAt j u b
earlier j a b v u h f l high line lt = elim (cases_order b a) [
  | inl e ↦ (let q : place_among u < place_among v = omega arith in subst (λ c. HoldsAt j u c) (sym e) (f.before u l.low q))
  | inr o ↦ elim o [ inl less ↦ h b less line u l.low l.high | inr more ↦ absurd (let low : 1 ≤ place_among u = l.low in omega arith) ]
]

pub first_at : (j : Case) (v : Condition) (a : ℕ) → HoldsAt j V1 j.declaration.start → a < 4096 → ((b : ℕ) → b < a → (claimed j.certificate b ≡ true) → HoldsBetween j 1 16 b) → FailsAtLine j a v → IsFirst j v a
first_at j v a s lt h f =
    let l : IsLater v = is_later v f.first.past in
    record {
      asked = subst (λ b. IsAskedAs b j a) (sym l.later) (lt, f.line);
      fails = f.first.fails;
      before = λ u b asked less. elim (start_or_later u) [
        | inl e ↦ at_start j u b s e asked
        | inr k ↦ (let q : 16 * b + place_among u < 16 * a + place_among v = subst (λ n. n < 16 * a + place_among v) (order_of u b k) (subst (λ n. order u b < n) (order_of v a l) less) in
            earlier j a b v u h f.first k l.high (at_line j u b k asked).1 q)
      ];
    }

-- the condition on the start is asked before all others
pub first_at_start : (j : Case) → (HoldsAt j V1 j.declaration.start → ⊥) → IsFirst j V1 j.declaration.start
first_at_start j h = record {
  asked = refl;
  fails = h;
  before = λ u b asked less. absurd (omega arith);
}

-- addresses up to the next at which something is claimed, where those before a number are known
pub before : (j : Case) (n w : ℕ) → IsFirstFrom n (claimed j.certificate) w → ((a : ℕ) → a < n → (claimed j.certificate a ≡ true) → HoldsBetween j 1 16 a) →
    (a : ℕ) → a < w → (claimed j.certificate a ≡ true) → HoldsBetween j 1 16 a
before j n w first h a under line = elim (cases_lt a n) [
  | inl l ↦ h a l line
  | inr g ↦ absurd (true≢false (sym line ∙ first.before a g under))
]

-- and all addresses, where nothing is claimed any more
pub all_hold : (j : Case) (n : ℕ) → HasNoneFrom n (claimed j.certificate) → ((a : ℕ) → a < n → (claimed j.certificate a ≡ true) → HoldsBetween j 1 16 a) →
    (a : ℕ) → a < 4096 → (claimed j.certificate a ≡ true) → HoldsBetween j 1 16 a
all_hold j n none h a small line = elim (cases_lt a n) [
  | inl l ↦ h a l line
  | inr g ↦ absurd (true≢false (sym line ∙ none a g small))
]

-- the next entry whose routine is named, from a number on
abbrev pub NextNamed : Certificate → ℕ → Option ℕ → Type 0
NextNamed c n found = MatchOption found (HasNoneFrom n (names_routine c)) (λ w. IsFirstFrom n (names_routine c) w)

named_claimed : (listed fact exits : Bool) → (listed || exits) ≡ true → (listed || (fact || exits)) ≡ true
named_claimed true fact exits h = refl
named_claimed false true exits h = refl
named_claimed false false exits h = h

-- it is not before the next address at which something is claimed
not_before : (c : Certificate) (n a w : ℕ) → IsFirstFrom n (claimed c) a → IsFirstFrom n (names_routine c) w → a ≤ w
not_before c n a w first named = elim (cases_lt w a) [
  | inl l ↦ absurd (true≢false (sym (named_claimed (c.listed w) (has_any (c.facts w)) _ named.within) ∙ first.before w named.reached l))
  | inr g ↦ g
]

-- so there it tells whether the routine is named
pub is_named : (c : Certificate) (n a : ℕ) (found : Option ℕ) (b : Bool) → IsFirstFrom n (claimed c) a → NextNamed c n found → (IsTrue b ↔ found ≡ Some a) → b ≡ names_routine c a
is_named c n a found true first next told = sym (subst (λ o. NextNamed c n o) (told.0 refl) next).within
is_named c n a None false first next told = sym (next a first.reached first.small)
is_named c n a (Some w) false first next told = elim (cases_lt a w) [
  | inl l ↦ sym (next.before a first.reached l)
  | inr g ↦ absurd (true≢false (sym (told.1 (ap Some (let low : a ≤ w = not_before c n a w first next in omega arith)))))
]

-- and it is the next one still, if that is not
pub named_later : (c : Certificate) (n a i : ℕ) (found : Option ℕ) → IsFirstFrom n (claimed c) a → i ≡ a → NextNamed c n found → names_routine c a ≡ false → NextNamed c (i + 1) found
named_later c n a i None first same next isnt = λ v late small. next v (let low : n ≤ a = first.reached in omega arith) small
named_later c n a i (Some w) first same next isnt = record {
  small = next.small;
  reached = (let low : a ≤ w = not_before c n a w first next in elim (cases_lt a w) [
    | inl l ↦ omega arith
    | inr g ↦ absurd (true≢false (sym next.within ∙ ap (names_routine c) (let e : w ≡ a = omega arith in e) ∙ isnt))
  ]);
  within = next.within;
  before = λ v late under. next.before v (let low : n ≤ a = first.reached in omega arith) under;
}
