-- Tests below a number.
use Rattle.std.proofs.Common.{◌≡◌, ℕ, zero, suc, ◌+◌, ◌<◌, ◌≤◌, Bool, true, false, ◌&&◌, ◌||◌, refl, sym, ◌∙◌, ap, inl, inr, arith, ◌⊎◌, add-one}
use Rattle.std.proofs.lemmas.Bool.{cases_eq, cases_lt}
use Rattle.wordset.specs.Words.{some_below, IsFirstFrom, HasNoneFrom}

pub true_false : true ≡ false → ⊥
true_false e = cc

pub or_right : (a b : Bool) → b ≡ true → (a || b) ≡ true
or_right true b e = refl
or_right false b e = e

pub or_left : (a b : Bool) → a ≡ true → (a || b) ≡ true
or_left true b e = refl
or_left false b e = absurd (true_false (sym e))

pub or_cases : (a b : Bool) → (a || b) ≡ true → (a ≡ true) ⊎ (b ≡ true)
or_cases true b e = inl refl
or_cases false b e = inr e

pub and_both : (a b : Bool) → a ≡ true → b ≡ true → (a && b) ≡ true
and_both true b e f = f
and_both false b e f = e

pub and_first : (a b : Bool) → (a && b) ≡ true → a ≡ true
and_first true b e = refl
and_first false b e = e

pub and_second : (a b : Bool) → (a && b) ≡ true → b ≡ true
and_second true b e = e
and_second false b e = absurd (true_false (sym e))

-- two tests that each follow from the other
pub both_ways : (a b : Bool) → (a ≡ true → b ≡ true) → (b ≡ true → a ≡ true) → a ≡ b
both_ways true b f g = sym (f refl)
both_ways false true f g = g refl
both_ways false false f g = refl

pub some_from : (n : ℕ) (test : ℕ → Bool) (k : ℕ) → k < n → test k ≡ true → some_below n test ≡ true
unfolding some_below
some_from zero test k h e = absurd (omega arith)
some_from (suc n) test k h e =
    elim (cases_eq k n) [
      | inl q ↦ (let t : test n ≡ true = rw (← q) e in rw t)
      | inr q ↦ or_right (test n) (some_below n test) (some_from n test k (omega arith) e)
    ]

pub record IsSome (n : ℕ) (test : ℕ → Bool) : Type 0 where
  pub at : ℕ
  pub small : at < n
  pub holds : test at ≡ true

pub some_to : (n : ℕ) (test : ℕ → Bool) → some_below n test ≡ true → IsSome n test
unfolding some_below
some_to zero test e = absurd (true_false (sym e))
some_to (suc n) test e = elim (or_cases (test n) (some_below n test) e) [
  | inl t ↦ record { at = n; small = omega arith; holds = t }
  | inr r ↦ (let s : IsSome n test = some_to n test r in record { at = s.at; small = omega arith; holds = s.holds })
]

pub some_more : (n : ℕ) (test : ℕ → Bool) → some_below (n + 1) test ≡ (test n || some_below n test)
unfolding some_below
some_more n test = rw add-one refl

pub some_none : (test : ℕ → Bool) → some_below 0 test ≡ false
unfolding some_below
some_none test = refl

-- one number more, which is in the set or isn't
pub more_yes : (n : ℕ) (a t : ℕ → Bool) (p q : Bool) → p ≡ some_below n (λ x. a x && t x) → a n ≡ true → q ≡ (p || t n) → q ≡ some_below (n + 1) (λ x. a x && t x)
more_yes n a t p q before has is = is ∙ swap p (t n) ∙ ap (λ r. t n || r) before ∙ ap (λ b. (b && t n) || some_below n (λ x. a x && t x)) (sym has) ∙ sym (some_more n (λ x. a x && t x))
  where
    swap : (p q : Bool) → (p || q) ≡ (q || p)
    swap true true = refl
    swap true false = refl
    swap false true = refl
    swap false false = refl

-- the two numbers below 2
pub some_of_two : (test : ℕ → Bool) → some_below 2 test ≡ (test 0 || test 1)
unfolding some_below
some_of_two test = two (test 0) (test 1)
  where
    two : (p q : Bool) → (q || (p || false)) ≡ (p || q)
    two true true = refl
    two true false = refl
    two false true = refl
    two false false = refl

pub some_none_of : (n : ℕ) (test : ℕ → Bool) → ((v : ℕ) → v < n → test v ≡ false) → some_below n test ≡ false
unfolding some_below
some_none_of zero test none = refl
some_none_of (suc n) test none = let here : test n ≡ false = none n (omega arith) in rw here (some_none_of n test (λ v h. none v (omega arith)))

pub none_of_some : (n : ℕ) (test : ℕ → Bool) → some_below n test ≡ false → (v : ℕ) → v < n → test v ≡ false
none_of_some n test none v h = go (test v) refl
  where
    go : (p : Bool) → test v ≡ p → test v ≡ false
    go true e = absurd (true_false (sym (some_from n test v h e) ∙ none))
    go false e = e

-- ---- the words of a set gone through in order

-- the numbers between two where the set has no word change nothing
pub some_skip : (n m : ℕ) (a t : ℕ → Bool) → n ≤ m → ((u : ℕ) → n ≤ u → u < m → a u ≡ false) → some_below n (λ x. a x && t x) ≡ some_below m (λ x. a x && t x)
some_skip n m a t le none = both_ways (some_below n (λ x. a x && t x)) (some_below m (λ x. a x && t x))
    (λ e. let s : IsSome n (λ x. a x && t x) = some_to n (λ x. a x && t x) e in some_from m (λ x. a x && t x) s.at (omega arith) s.holds)
    (λ e. let s : IsSome m (λ x. a x && t x) = some_to m (λ x. a x && t x) e in elim (cases_lt s.at n) [
      | inl l ↦ some_from n (λ x. a x && t x) s.at l s.holds
      | inr g ↦ absurd (true_false (sym (and_first (a s.at) (t s.at) s.holds) ∙ none s.at g s.small))
    ])

-- one word more, the first from n on
pub some_next : (n w : ℕ) (a t : ℕ → Bool) (p q : Bool) → IsFirstFrom n a w → p ≡ some_below n (λ x. a x && t x) → q ≡ (p || t w) → q ≡ some_below (w + 1) (λ x. a x && t x)
some_next n w a t p q first before is = more_yes w a t p q (before ∙ some_skip n w a t first.reached first.before) first.within is

-- no word more
pub some_last : (n : ℕ) (a t : ℕ → Bool) (p : Bool) → n ≤ 4096 → HasNoneFrom n a → p ≡ some_below n (λ x. a x && t x) → p ≡ some_below 4096 (λ x. a x && t x)
some_last n a t p le none before = before ∙ some_skip n 4096 a t le none
