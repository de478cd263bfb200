-- A word put into each word of a set, bit by bit.
use Rattle.std.proofs.Common.{◌≡◌, ◌≢◌, ℕ, ◌+◌, ◌%◌, ◌^◌, ◌<◌, ◌==◌, true, ◌&&◌, ◌||◌, sym, ◌∙◌, ap, inl, inr, arith, ◌⊎◌, not, ◌≤◌, false}
use Rattle.std.specs.Prelude.{bit_or}
use Rattle.std.specs.Int.{bit_at}
use Rattle.std.specs.Int.Bits.{or_zero_r}
use Rattle.std.proofs.lemmas.Bool.{cases_eq, eqb-true, eq-eqb}
use Rattle.std.proofs.lemmas.Nat.{or_lt}
use Rattle.std.proofs.lemmas.Nat.Bits.{bit_at-lt, bit_at_or, same_from_bits, bit_at-pow_same, bit_at-pow_other}
use Rattle.wordset.specs.Bits.{has_bit, put_bit, ors_with}
use Rattle.wordset.specs.Words.{Words, SameWords, minus}
use Rattle.wordset.proofs.Parts.{weight_small, add_bit, NextMask, next_mask}
use Rattle.wordset.proofs.Tests.{true_false, both_ways, some_from, some_to, IsSome, and_both, and_first, and_second, or_left, or_right, or_cases}

pub or_swap : (x y : ℕ) → bit_or x y ≡ bit_or y x
or_swap x y = same_from_bits _ _ (λ j. omega (arith, bit_at_or x y j, bit_at_or y x j))

-- v is a word of b with x put in
record IsWith (x : ℕ) (b : Words) (v : ℕ) : Type 0 where
  word : ℕ
  small : word < 4096
  within : b word ≡ true
  whole : bit_or word x ≡ v

from_with : (x : ℕ) (b : Words) (v : ℕ) → ors_with x b v ≡ true → IsWith x b v
from_with x b v e = let s : IsSome 4096 (λ y. b y && (bit_or x y == v)) = some_to 4096 (λ y. b y && (bit_or x y == v)) e in
    record { word = s.at; small = s.small; within = and_first (b s.at) (bit_or x s.at == v) s.holds; whole = or_swap s.at x ∙ eqb-true _ _ (and_second (b s.at) (bit_or x s.at == v) s.holds) }

to_with : (x : ℕ) (b : Words) (v : ℕ) → IsWith x b v → ors_with x b v ≡ true
to_with x b v s = some_from 4096 (λ y. b y && (bit_or x y == v)) s.word s.small (and_both (b s.word) (bit_or x s.word == v) s.within (eq-eqb _ _ (or_swap x s.word ∙ s.whole)))

pub with_past : (x : ℕ) (b : Words) → x < 4096 → (v : ℕ) → 4096 ≤ v → ors_with x b v ≡ false
with_past x b h v g = both_ways (ors_with x b v) false
    (λ t. let s : IsWith x b v = from_with x b v t in let less : bit_or s.word x < 4096 = or_lt 12 s.word x s.small h in let is : bit_or s.word x ≡ v = s.whole in absurd (omega arith))
    (λ e. absurd (let z : ⊥ = cc in z))

-- one bit more
more_bit : (at x next y : ℕ) → NextMask at x next → bit_or y next ≡ bit_or (bit_or y x) (2 ^ at)
more_bit at x next y is = same_from_bits _ _ (λ j. go j (cases_eq j at))
  where
    go : (j : ℕ) → (j ≡ at) ⊎ (j ≢ at) → bit_at (bit_or y next) j ≡ bit_at (bit_or (bit_or y x) (2 ^ at)) j
    go j (inl q) = ap (λ i. bit_at (bit_or y next) i) q ∙ omega (arith, bit_at_or y next at, is.some, bit_at_or (bit_or y x) (2 ^ at) at, bit_at-pow_same at, bit_at-lt y at, bit_at-lt (bit_or y x) at)
        ∙ ap (λ i. bit_at (bit_or (bit_or y x) (2 ^ at)) i) (sym q)
    go j (inr q) = omega (arith, bit_at_or y next j, is.others j q, bit_at_or (bit_or y x) (2 ^ at) j, bit_at_or y x j, bit_at-pow_other at j q)

bit_there : (u at : ℕ) → bit_at u at ≡ 1 → bit_or u (2 ^ at) ≡ u
bit_there u at e = same_from_bits _ _ (λ j. elim (cases_eq j at) [
  | inl q ↦ ap (λ i. bit_at (bit_or u (2 ^ at)) i) q ∙ omega (arith, bit_at_or u (2 ^ at) at, bit_at-pow_same at) ∙ ap (λ i. bit_at u i) (sym q)
  | inr q ↦ omega (arith, bit_at_or u (2 ^ at) j, bit_at-pow_other at j q)
])

pub put_bit_with : (at x next : ℕ) → NextMask at x next → x < 4096 → (b : Words) (v : ℕ) → v < 4096 → put_bit at (ors_with x b) v ≡ ors_with next b v
put_bit_with at x next is small_x b v small = both_ways (put_bit at (ors_with x b) v) (ors_with next b v) there back
  where
    less : ℕ
    less = minus v (2 ^ at)

    weight : 2 ^ at < 4096
    weight = weight_small at is.small

    there : put_bit at (ors_with x b) v ≡ true → ors_with next b v ≡ true
    there e = elim (or_cases (ors_with x b v && has_bit at v) (ors_with x b less && not (has_bit at less)) e) [
      | inl t ↦
          (let s : IsWith x b v = from_with x b v (and_first (ors_with x b v) (has_bit at v) t) in
          to_with next b v (record {
            word = s.word;
            small = s.small;
            within = s.within;
            whole = more_bit at x next s.word is ∙ ap (λ n. bit_or n (2 ^ at)) s.whole ∙ bit_there v at (eqb-true _ _ (and_second (ors_with x b v) (has_bit at v) t));
          }))
      | inr t ↦
          (let s : IsWith x b less = from_with x b less (and_first (ors_with x b less) (not (has_bit at less)) t) in
          let none : bit_at less at ≡ 0 = lacks less (and_second (ors_with x b less) (not (has_bit at less)) t) in
          let below : less < 4096 = omega arith in
          let sum : bit_or less (2 ^ at) ≡ less + 2 ^ at = add_bit less at none in
          let fits : bit_or less (2 ^ at) < 4096 = or_lt 12 less (2 ^ at) below weight in
          let all : less + 2 ^ at ≡ v = omega arith in
          to_with next b v (record {
            word = s.word;
            small = s.small;
            within = s.within;
            whole = more_bit at x next s.word is ∙ ap (λ n. bit_or n (2 ^ at)) s.whole ∙ sum ∙ all;
          }))
    ]
      where
        lacks : (u : ℕ) → not (has_bit at u) ≡ true → bit_at u at ≡ 0
        lacks u e = elim (cases_eq (bit_at u at) 1) [ inl q ↦ absurd (true_false (sym e ∙ ap not (eq-eqb (bit_at u at) 1 q))) | inr n ↦ omega (arith, bit_at-lt u at) ]

    back : ors_with next b v ≡ true → put_bit at (ors_with x b) v ≡ true
    back e = go (from_with next b v e)
      where
        go : IsWith next b v → put_bit at (ors_with x b) v ≡ true
        go s = elim (cases_eq (bit_at (bit_or s.word x) at) 1) [
          | inl q ↦
              (let same : bit_or s.word x ≡ v = sym (bit_there (bit_or s.word x) at q) ∙ sym (more_bit at x next s.word is) ∙ s.whole in
              or_left (ors_with x b v && has_bit at v) (ors_with x b less && not (has_bit at less))
              (and_both (ors_with x b v) (has_bit at v) (to_with x b v (record { word = s.word; small = s.small; within = s.within; whole = same }))
              (ap (λ n. bit_at n at == 1) (sym same) ∙ ap (λ b. b == 1) q)))
          | inr q ↦
              (let none : bit_at (bit_or s.word x) at ≡ 0 = omega (arith, bit_at-lt (bit_or s.word x) at) in
              let all : bit_or s.word x + 2 ^ at ≡ v = sym (add_bit (bit_or s.word x) at none) ∙ sym (more_bit at x next s.word is) ∙ s.whole in
              let same : bit_or s.word x ≡ less = omega arith in
              or_right (ors_with x b v && has_bit at v) (ors_with x b less && not (has_bit at less))
              (and_both (ors_with x b less) (not (has_bit at less)) (to_with x b less (record { word = s.word; small = s.small; within = s.within; whole = same }))
              (ap not (ap (λ n. bit_at n at == 1) (sym same) ∙ ap (λ b. b == 1) none))))
        ]

pub with_step : (mask at : ℕ) (b : Words) (v : ℕ) → v < 4096 → at < 12 → mask < 4096 → bit_at mask at ≡ 1 → put_bit at (ors_with (mask % 2 ^ at) b) v ≡ ors_with (mask % 2 ^ (at + 1)) b v
with_step mask at b v small h m e = put_bit_with at (mask % 2 ^ at) (mask % 2 ^ (at + 1)) (next_mask mask at h e) (omega (arith, weight_small at h)) b v small

pub with_none : (mask : ℕ) (b : Words) (v : ℕ) → v < 4096 → b v ≡ ors_with (mask % 2 ^ 0) b v
with_none mask b v h =
    let none : mask % 2 ^ 0 ≡ 0 = omega arith in
    both_ways (b v) (ors_with (mask % 2 ^ 0) b v)
    (λ t. to_with (mask % 2 ^ 0) b v (record { word = v; small = h; within = t; whole = ap (λ k. bit_or v k) none ∙ or_zero_r v }))
    (λ t. let s : IsWith (mask % 2 ^ 0) b v = from_with (mask % 2 ^ 0) b v t in ap b (sym s.whole ∙ ap (λ k. bit_or s.word k) none ∙ or_zero_r s.word) ∙ s.within)

pub put_bit_same : (at : ℕ) (a b : Words) → at < 12 → SameWords a b → SameWords (put_bit at a) (put_bit at b)
put_bit_same at a b h same v g = ap (λ p. (p && has_bit at v) || (a (minus v (2 ^ at)) && not (has_bit at (minus v (2 ^ at))))) (same v g)
    ∙ ap (λ p. (b v && has_bit at v) || (p && not (has_bit at (minus v (2 ^ at))))) (same (minus v (2 ^ at)) (omega arith))
