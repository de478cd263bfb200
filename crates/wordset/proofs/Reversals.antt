-- The bits of a lane in the opposite order: they change places by ones, twos, fours and so on.
use Rattle.std.proofs.Common.{◌≡◌, ℕ, ◌+◌, ◌-◌, ◌*◌, ◌/◌, ◌%◌, ◌^◌, ◌<◌, ◌≤◌, ◌==◌, true, get_or, refl, sym, ◌∙◌, ap, inl, inr, arith, lit<}
use Rattle.std.specs.Prelude.{bit_or, bit_and, max, min}
use Rattle.std.specs.Int.{bit_at}
use Rattle.std.proofs.lemmas.Bool.{cases_eq, cases_lt, eqb-true, eq-eqb, ne_eqb, ltb-true}
use Rattle.std.proofs.lemmas.Nat.Bits.{bit_at-lt, bit_at_and, bit_at_or, bit_at_above}
use Rattle.std.proofs.Math.Dec.{ltb}
use Rattle.wordset.specs.Bits.{neighbour}
use Rattle.wordset.proofs.Parts.{every, every_at, patterns}
use Rattle.wordset.proofs.Shifts.{bit_div, up_high, up}

-- Of two bits that change places the upper one is in the pattern and the lower one is not.
own_places : every 6 (λ at. every 64 (λ j. bit_at (get_or patterns at 0) j == bit_at j at)) ≡ true
unfolding every
own_places = refl

upper_places : every 6 (λ at. every 64 (λ j. bit_at (get_or patterns at 0) (2 ^ at + j) == 1 - bit_at j at)) ≡ true
unfolding every
upper_places = refl

within_lanes : every 6 (λ at. every 64 (λ j. ltb (neighbour at j) 64)) ≡ true
unfolding every
within_lanes = refl

all_turned : every 64 (λ j. neighbour 0 (neighbour 1 (neighbour 2 (neighbour 3 (neighbour 4 (neighbour 5 j))))) == 63 - j) ≡ true
unfolding every
all_turned = refl

neighbour_small : (at j : ℕ) → at < 6 → j < 64 → neighbour at j < 64
neighbour_small at j h g = ltb-true _ _ (every_at 64 (λ j. ltb (neighbour at j) 64) (every_at 6 (λ at. every 64 (λ j. ltb (neighbour at j) 64)) within_lanes at h) j g)

own_place : (at j : ℕ) → at < 6 → j < 64 → bit_at (get_or patterns at 0) j ≡ bit_at j at
own_place at j h g =
    eqb-true _ _ (every_at 64 (λ j. bit_at (get_or patterns at 0) j == bit_at j at) (every_at 6 (λ at. every 64 (λ j. bit_at (get_or patterns at 0) j == bit_at j at)) own_places at h) j g)

upper_place : (at j : ℕ) → at < 6 → j < 64 → bit_at (get_or patterns at 0) (2 ^ at + j) ≡ 1 - bit_at j at
upper_place at j h g =
    eqb-true _ _ (every_at 64 (λ j. bit_at (get_or patterns at 0) (2 ^ at + j) == 1 - bit_at j at)
    (every_at 6 (λ at. every 64 (λ j. bit_at (get_or patterns at 0) (2 ^ at + j) == 1 - bit_at j at)) upper_places at h) j g)

pub exchanged_bit : (x at by j : ℕ) → at < 6 → by ≡ 2 ^ at → j < 64 →
    bit_at (bit_or (bit_and x (get_or patterns at 0) / 2 ^ by) (bit_and (up by x) (get_or patterns at 0))) j ≡ bit_at x (neighbour at j)
exchanged_bit x at by j h e g =
    let pattern : ℕ = get_or patterns at 0 in
    let sum : by + j ≡ 2 ^ at + j = ap (λ n. n + j) e in
    let here : bit_at pattern j ≡ bit_at j at = own_place at j h g in
    let above : bit_at pattern (by + j) ≡ 1 - bit_at j at = ap (λ n. bit_at pattern n) sum ∙ upper_place at j h g in
    let lower : bit_at (bit_and x pattern / 2 ^ by) j ≡ min (bit_at x (by + j)) (bit_at pattern (by + j)) = bit_div (bit_and x pattern) by j ∙ bit_at_and x pattern (by + j) in
    let upper : bit_at (bit_and (up by x) pattern) j ≡ min (bit_at (up by x) j) (bit_at pattern j) = bit_at_and (up by x) pattern j in
    let both : bit_at (bit_or (bit_and x pattern / 2 ^ by) (bit_and (up by x) pattern)) j ≡ max (bit_at (bit_and x pattern / 2 ^ by) j) (bit_at (bit_and (up by x) pattern) j) =
    bit_at_or (bit_and x pattern / 2 ^ by) (bit_and (up by x) pattern) j in
    elim (cases_eq (bit_at j at) 1) [
      | inl u ↦
          (let far : by ≤ j = elim (cases_lt j by) [
            | inl l ↦ (let none : bit_at j at ≡ 0 = bit_at_above j at at (omega arith) (omega arith) in absurd (omega arith))
            | inr le ↦ le
          ] in
          let moved : bit_at (up by x) j ≡ bit_at x (j - by) = up_high x by j g far in
          let small : bit_at x (j - by) < 2 = bit_at-lt x (j - by) in
          let all : bit_at (bit_or (bit_and x pattern / 2 ^ by) (bit_and (up by x) pattern)) j ≡ bit_at x (j - by) = omega arith in
          let place : j - by ≡ j - 2 ^ at = ap (λ n. j - n) e in
          all ∙ ap (λ n. bit_at x n) place ∙ ap (λ n. bit_at x n) (sym (rw (eq-eqb _ _ u) refl)))
      | inr n ↦
          (let clear : bit_at j at < 2 = bit_at-lt j at in
          let small : bit_at x (by + j) < 2 = bit_at-lt x (by + j) in
          let all : bit_at (bit_or (bit_and x pattern / 2 ^ by) (bit_and (up by x) pattern)) j ≡ bit_at x (by + j) = omega arith in
          let place : by + j ≡ j + 2 ^ at = omega arith in
          all ∙ ap (λ n. bit_at x n) place ∙ ap (λ n. bit_at x n) (sym (rw (ne_eqb _ _ n) refl)))
    ]

pub reversed_bit : (x a b c d e f j : ℕ) → ((k : ℕ) → k < 64 → bit_at a k ≡ bit_at x (neighbour 0 k)) → ((k : ℕ) → k < 64 → bit_at b k ≡ bit_at a (neighbour 1 k)) →
    ((k : ℕ) → k < 64 → bit_at c k ≡ bit_at b (neighbour 2 k)) → ((k : ℕ) → k < 64 → bit_at d k ≡ bit_at c (neighbour 3 k)) →
    ((k : ℕ) → k < 64 → bit_at e k ≡ bit_at d (neighbour 4 k)) → ((k : ℕ) → k < 64 → bit_at f k ≡ bit_at e (neighbour 5 k)) → j < 64 → bit_at f j ≡ bit_at x (63 - j)
reversed_bit x a b c d e f j ha hb hc hd he hf h =
    let j5 : neighbour 5 j < 64 = neighbour_small 5 j (lit< tt) h in
    let j4 : neighbour 4 (neighbour 5 j) < 64 = neighbour_small 4 _ (lit< tt) j5 in
    let j3 : neighbour 3 (neighbour 4 (neighbour 5 j)) < 64 = neighbour_small 3 _ (lit< tt) j4 in
    let j2 : neighbour 2 (neighbour 3 (neighbour 4 (neighbour 5 j))) < 64 = neighbour_small 2 _ (lit< tt) j3 in
    let j1 : neighbour 1 (neighbour 2 (neighbour 3 (neighbour 4 (neighbour 5 j)))) < 64 = neighbour_small 1 _ (lit< tt) j2 in
    hf j h ∙ he _ j5 ∙ hd _ j4 ∙ hc _ j3 ∙ hb _ j2 ∙ ha _ j1
    ∙ ap (λ n. bit_at x n) (eqb-true _ _ (every_at 64 (λ j. neighbour 0 (neighbour 1 (neighbour 2 (neighbour 3 (neighbour 4 (neighbour 5 j))))) == 63 - j) all_turned j h))
