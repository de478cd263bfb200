use Rattle.std.proofs.Common.{◌≡◌, ℕ, ◌+◌, ◌-◌, ◌*◌, ◌/◌, ◌%◌, ◌^◌, ◌<◌, ◌≤◌, ◌==◌, Bool, true, false, not, ◌&&◌, ◌||◌, refl, inl, inr, arith, nat_lt, ap, sym, ◌∙◌, ◌⊎◌, lit<, List, get_or, w64}
use Rattle.std.specs.Prelude.{nat_le, bit_and}
use Rattle.std.specs.Int.{bit_at, bit_not}
use Rattle.std.proofs.lemmas.Bool.Decides.{nat_tests}
use Rattle.std.proofs.lemmas.Bool.{cases_lt}
use Rattle.std.proofs.lemmas.Nat.{shr-shr}
use Rattle.std.proofs.lemmas.Nat.Bits.{bit_at_ones, bit_at_cat_high, bit_at-zero}
use Rattle.wordset.specs.Words.{between, union, all_words}
use Rattle.wordset.specs.Lanes.{words}
use Rattle.wordset.proofs.SetLemmas.{words_bit, words_past, equal_words, all_past}
use Rattle.wordset.proofs.LaneBits.{and_bit, not_bit, or_false}
use Rattle.wordset.proofs.Tests.{both_ways, and_both, and_first, and_second}

to_le : (a b : ℕ) → nat_le a b ≡ true → a ≤ b
to_le a b e = grind (arith, nat_tests)

le_to : (a b : ℕ) → a ≤ b → nat_le a b ≡ true
le_to a b h = grind (arith, nat_tests)

to_lt : (a b : ℕ) → nat_lt a b ≡ true → a < b
to_lt a b e = grind (arith, nat_tests)

lt_to : (a b : ℕ) → a < b → nat_lt a b ≡ true
lt_to a b h = grind (arith, nat_tests)

not_lt : (a b : ℕ) → b ≤ a → nat_lt a b ≡ false
not_lt a b h = grind (arith, nat_tests)

-- bit j of a lane of ones moved down by s
ones_moved : (s j : ℕ) → s ≤ 64 → j < 64 → (bit_at ((2 ^ 64 - 1) / 2 ^ s) j == 1) ≡ nat_lt j (64 - s)
ones_moved s j h g = ap (λ x. x % 2 == 1) (shr-shr (2 ^ 64 - 1) s j) ∙ elim (cases_lt (s + j) 64) [
  | inl l ↦ ap (λ x. x == 1) (bit_at_ones 64 (s + j) l) ∙ sym (lt_to j (64 - s) (omega arith))
  | inr m ↦ ap (λ x. x == 1) (bit_at_cat_high 0 64 (2 ^ 64 - 1) (s + j) (lit< tt) m ∙ bit_at-zero (s + j - 64)) ∙ sym (not_lt j (64 - s) (omega arith))
]

-- a lane all of whose words are less than a number
pub lane_whole : (end i j : ℕ) → 64 * i + 64 ≤ end → j < 64 → (bit_at (2 ^ 64 - 1) j == 1) ≡ nat_lt (64 * i + j) end
lane_whole end i j h g = ap (λ x. x == 1) (bit_at_ones 64 j g) ∙ sym (lt_to (64 * i + j) end (omega arith))

-- one of which some are
pub lane_part : (end i j : ℕ) → 64 * i < end → end < 64 * i + 64 → j < 64 → (bit_at ((2 ^ 64 - 1) / 2 ^ (64 * i + 64 - end)) j == 1) ≡ nat_lt (64 * i + j) end
lane_part end i j h k g = ones_moved (64 * i + 64 - end) j (omega arith) g ∙ both_ways (nat_lt j (64 - (64 * i + 64 - end))) (nat_lt (64 * i + j) end)
    (λ e. let l : j < 64 - (64 * i + 64 - end) = to_lt j (64 - (64 * i + 64 - end)) e in lt_to (64 * i + j) end (omega arith))
    (λ e. let l : 64 * i + j < end = to_lt (64 * i + j) end e in lt_to j (64 - (64 * i + 64 - end)) (omega arith))

-- below the one end, and not below the other
between_of : (low high v : ℕ) → (nat_lt v (high + 1) && not (nat_lt v low)) ≡ between low high v
between_of low high v = both_ways (nat_lt v (high + 1) && not (nat_lt v low)) (between low high v)
    (λ e. let a : v < high + 1 = to_lt v (high + 1) (and_first (nat_lt v (high + 1)) (not (nat_lt v low)) e) in
    elim (cases_lt v low) [
      | inl l ↦ absurd (clash (nat_lt v low) (lt_to v low l) (and_second (nat_lt v (high + 1)) (not (nat_lt v low)) e))
      | inr g ↦ and_both (nat_le low v) (nat_le v high) (le_to low v g) (le_to v high (omega arith))
    ])
    (λ e. let a : low ≤ v = to_le low v (and_first (nat_le low v) (nat_le v high) e) in
    let b : v ≤ high = to_le v high (and_second (nat_le low v) (nat_le v high) e) in
    and_both (nat_lt v (high + 1)) (not (nat_lt v low)) (lt_to v (high + 1) (omega arith)) (ap not (not_lt v low a)))
  where
    clash : (p : Bool) → p ≡ true → not p ≡ true → ⊥
    clash true e f = let z : ⊥ = cc in z
    clash false e f = let z : ⊥ = cc in z

-- a lane of a range
pub lane_between : (low high v x y j : ℕ) → y < 2 ^ 64 → j < 64 → (bit_at x j == 1) ≡ nat_lt v (high + 1) → (bit_at y j == 1) ≡ nat_lt v low
    → (bit_at (bit_and x (bit_not w64 y)) j == 1) ≡ between low high v
lane_between low high v x y j fit g e f = and_bit x (bit_not w64 y) j ∙ ap (λ p. p && (bit_at (bit_not w64 y) j == 1)) e
    ∙ ap (λ p. nat_lt v (high + 1) && p) (not_bit y j fit g ∙ ap not f) ∙ between_of low high v

-- a lane of no word: all its words lie outside
pub lane_outside : (low high v x j : ℕ) → x ≡ 0 → (v < low) ⊎ (high < v) → (bit_at x j == 1) ≡ between low high v
lane_outside low high v x j z out = ap (λ n. bit_at n j == 1) z ∙ ap (λ n. n == 1) (bit_at-zero j) ∙ both_ways false (between low high v)
    (λ e. absurd (let q : ⊥ = cc in q))
    (λ e. absurd (no out (to_le low v (and_first (nat_le low v) (nat_le v high) e)) (to_le v high (and_second (nat_le low v) (nat_le v high) e))))
  where
    no : (v < low) ⊎ (high < v) → low ≤ v → v ≤ high → ⊥
    no (inl a) b c = omega arith
    no (inr a) b c = omega arith

-- no word of a range: it adds none
pub lane_beside : (low high v : ℕ) (p : Bool) → (v < low) ⊎ (high < v) → p ≡ (p || between low high v)
lane_beside low high v p out = sym (or_false p) ∙ ap (λ q. p || q) (sym (not_between low high v out))
  where
    not_between : (low high v : ℕ) → (v < low) ⊎ (high < v) → between low high v ≡ false
    not_between low high v out = sym (lane_outside low high v 0 0 refl out)

-- every word of the lanes to which a range was added
pub words_of_bits : (lanes old : List ℕ) (low high : ℕ) → ((i j : ℕ) → i < 64 → j < 64 → (bit_at (get_or lanes i 0) j == 1) ≡ ((bit_at (get_or old i 0) j == 1) || between low high (64 * i + j)))
    → (v : ℕ) → v < 4096 → words lanes v ≡ union (words old) (between low high) v
words_of_bits lanes old low high all v h =
    let back : 64 * (v / 64) + v % 64 ≡ v = omega arith in
    words_bit lanes v h ∙ all (v / 64) (v % 64) (omega arith) (omega arith) ∙ ap (λ n. (bit_at (get_or old (v / 64) 0) (v % 64) == 1) || between low high n) back
    ∙ ap (λ p. p || between low high v) (sym (words_bit old v h))

-- every word of the lanes
pub words_of_lanes : (lanes : List ℕ) (low high : ℕ) → ((i j : ℕ) → i < 64 → j < 64 → (bit_at (get_or lanes i 0) j == 1) ≡ between low high (64 * i + j))
    → (v : ℕ) → v < 4096 → words lanes v ≡ between low high v
words_of_lanes lanes low high all v h =
    let back : 64 * (v / 64) + v % 64 ≡ v = omega arith in
    words_bit lanes v h ∙ all (v / 64) (v % 64) (omega arith) (omega arith) ∙ ap (between low high) back

-- no word of a range is above its end
pub range_past : (low high v : ℕ) → high < 4096 → 4096 ≤ v → (nat_le low v && nat_le v high) ≡ false
range_past low high v h g = both_ways (nat_le low v && nat_le v high) false
    (λ e. let b : v ≤ high = to_le v high (and_second (nat_le low v) (nat_le v high) e) in absurd (omega arith))
    (λ e. absurd (let z : ⊥ = cc in z))

pub union_past : (old : List ℕ) (low high : ℕ) → high < 4096 → (v : ℕ) → 4096 ≤ v → union (words old) (between low high) v ≡ false
union_past old low high h v g = ap (λ p. p || between low high v) (words_past old v g) ∙ range_past low high v h g

-- all words, from the first one to the last one
pub all_between : (low high : ℕ) → low ≡ 0 → high ≡ 4095 → all_words ≡ between low high
all_between low high z e = equal_words all_words (between low high) all_past (λ v g. range_past low high v (omega arith) g)
    (λ v h. lt_to v 4096 h ∙ sym (and_both (nat_le low v) (nat_le v high) (le_to low v (omega arith)) (le_to v high (omega arith))))
