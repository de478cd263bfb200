-- Going through a set: its next word passes; some of its words has a property, or none has.
use Rattle.std.proofs.Common.{◌≡◌, ℕ, ◌+◌, ◌<◌, true, false, ◌&&◌, sym, ◌∙◌, subst, inl, inr, arith}
use Rattle.std.proofs.lemmas.Bool.{and_from, and_left, and_right, cases_Bool, cases_lt, cases_eq, true≢false}
use Rattle.wordset.specs.Words.{Words, IsFirstFrom, some_below}
use Rattle.wordset.proofs.Tests.{some_from, some_none_of}

-- The next word of the set passes.
pub one_more : (p : ℕ → Type 0) (set : Words) {from w : ℕ} (i : ℕ) → IsFirstFrom from set w → i ≡ w → p w → ((a : ℕ) → a < from → set a ≡ true → p a) → (a : ℕ) → a < i + 1 → set a ≡ true → p a
one_more p set {from} {w} i first same passes before a lt is = elim (cases_lt a from) [
  | inl h ↦ before a h is
  | inr h ↦ elim (cases_eq a w) [
    | inl e ↦ subst p (sym e) passes
    | inr n ↦ (let less : a < w = omega arith in absurd (true≢false (sym is ∙ first.before a h less)))
  ]
]

-- Some word of the set has a property, or none has.
pub some_has : (set t : Words) {w : ℕ} → w < 4096 → set w ≡ true → t w ≡ true → true ≡ some_below 4096 (λ y. set y && t y)
some_has set t {w} lt is e = sym (some_from 4096 (λ y. set y && t y) w lt (and_from (set w) (t w) is e))

pub none_has : (set t : Words) → ((a : ℕ) → a < 4096 → set a ≡ true → t a ≡ false) → false ≡ some_below 4096 (λ y. set y && t y)
none_has set t h = sym (some_none_of 4096 (λ y. set y && t y) (λ v lt. elim (cases_Bool (set v)) [ inl e ↦ and_right _ _ (h v lt e) | inr e ↦ and_left _ _ e ]))
