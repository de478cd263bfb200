-- A set moved up across lanes, and round the end.
use Rattle.std.proofs.Common.{◌≡◌, ℕ, ◌+◌, ◌-◌, ◌*◌, ◌/◌, ◌%◌, ◌^◌, ◌<◌, ◌≤◌, ◌==◌, ◌||◌, List, length, get_or, replicate, map, sym, ◌∙◌, ap, inl, inr, arith, ◌⊎◌, add-zero, zero-add}
use Rattle.std.specs.Prelude.{bit_or}
use Rattle.std.specs.Int.{bit_at}
use Rattle.std.proofs.lemmas.Bool.{cases_lt}
use Rattle.std.proofs.lemmas.Nat.Bits.{bit_at_cat_low, bit_at_cat_high, bit_at_above, bit_at-zero}
use Rattle.std.proofs.lemmas.Nat.{pow-add, pow_pos, div-add-mod'}
use Rattle.std.proofs.Math.Nat.{div-div-eq-div-mul}
use Rattle.std.proofs.lemmas.List.{get_or-map, length-map}
use Rattle.std.proofs.lemmas.Simd.{get_or-zip2, zip2_splat, map-map, get_or-put_chunk_below, get_or-put_chunk_at, length-put_chunk, get_or-chunk, length-chunk}
use lib.Lanes.{zip2, chunk, put_chunk}
use Rattle.wordset.specs.Words.{minus}
use Rattle.wordset.specs.Lanes.{words, AreLanes, twice}
use Rattle.wordset.proofs.SetLemmas.{words_bit}
use Rattle.wordset.proofs.LaneBits.{or_bit, or_false}

abbrev pub up : ℕ → ℕ → ℕ
up by x = x * 2 ^ by % 2 ^ 64

abbrev pub down : ℕ → ℕ → ℕ
down by x = x / 2 / 2 ^ (63 - by)

-- what the vector operations compute
pub joined_lanes : (near far : List ℕ) (by : ℕ) → length near ≡ 64 → length far ≡ 64
    → zip2 bit_or (zip2 (λ x s. x * 2 ^ s % 2 ^ 64) near (replicate 64 by)) (zip2 (λ x s. x / 2 ^ s) (zip2 (λ x s. x / 2 ^ s) far (replicate 64 1)) (replicate 64 (63 - by)))
    ≡ zip2 bit_or (map (up by) near) (map (down by) far)
joined_lanes near far by ln lf =
    let a : zip2 (λ x s. x * 2 ^ s % 2 ^ 64) near (replicate 64 by) ≡ map (up by) near = zip2_splat (λ x s. x * 2 ^ s % 2 ^ 64) near 64 by ln in
    let b : zip2 (λ x s. x / 2 ^ s) far (replicate 64 1) ≡ map (λ x. x / 2) far = zip2_splat (λ x s. x / 2 ^ s) far 64 1 lf in
    let c : zip2 (λ x s. x / 2 ^ s) (map (λ x. x / 2) far) (replicate 64 (63 - by)) ≡ map (λ x. x / 2 ^ (63 - by)) (map (λ x. x / 2) far) =
    zip2_splat (λ x s. x / 2 ^ s) (map (λ x. x / 2) far) 64 (63 - by) (length-map far (λ x. x / 2) ∙ lf) in
    ap (λ p. zip2 bit_or p (zip2 (λ x s. x / 2 ^ s) (zip2 (λ x s. x / 2 ^ s) far (replicate 64 1)) (replicate 64 (63 - by)))) a
    ∙ ap (λ q. zip2 bit_or (map (up by) near) (zip2 (λ x s. x / 2 ^ s) q (replicate 64 (63 - by)))) b
    ∙ ap (λ q. zip2 bit_or (map (up by) near) q) (c ∙ map-map (λ x. x / 2 ^ (63 - by)) (λ x. x / 2) far)

-- ---- one bit

pub bit_mod : (n w j : ℕ) → j < w → bit_at (n % 2 ^ w) j ≡ bit_at n j
bit_mod n w j h = let e : n / 2 ^ w * 2 ^ w + n % 2 ^ w ≡ n = div-add-mod' n (2 ^ w) in sym (bit_at_cat_low (n / 2 ^ w) w (n % 2 ^ w) j h) ∙ ap (λ m. bit_at m j) e

pub bit_div : (n m j : ℕ) → bit_at (n / 2 ^ m) j ≡ bit_at n (m + j)
bit_div n m j = ap (λ x. x % 2) (div-div-eq-div-mul n (2 ^ m) (2 ^ j) ∙ ap (λ p. n / p) (sym (pow-add 2 m j)))

bit_mul_high : (n r j : ℕ) → r ≤ j → bit_at (n * 2 ^ r) j ≡ bit_at n (j - r)
bit_mul_high n r j h = ap (λ m. bit_at m j) (sym (add-zero (n * 2 ^ r))) ∙ bit_at_cat_high n r 0 j (pow_pos r) h

bit_mul_low : (n r j : ℕ) → j < r → bit_at (n * 2 ^ r) j ≡ 0
bit_mul_low n r j h = ap (λ m. bit_at m j) (sym (add-zero (n * 2 ^ r))) ∙ bit_at_cat_low n r 0 j h ∙ bit_at-zero j

pub up_high : (n r j : ℕ) → j < 64 → r ≤ j → bit_at (up r n) j ≡ bit_at n (j - r)
up_high n r j h g = bit_mod (n * 2 ^ r) 64 j h ∙ bit_mul_high n r j g

up_low : (n r j : ℕ) → j < 64 → j < r → bit_at (up r n) j ≡ 0
up_low n r j h g = bit_mod (n * 2 ^ r) 64 j h ∙ bit_mul_low n r j g

down_bit : (n r j : ℕ) → r < 64 → bit_at (down r n) j ≡ bit_at n (64 - r + j)
down_bit n r j h = let e : 1 + (63 - r + j) ≡ 64 - r + j = omega arith in bit_div (n / 2) (63 - r) j ∙ bit_div n 1 (63 - r + j) ∙ ap (λ k. bit_at n k) e

-- ---- the lanes twice over

twice_at : (x : List ℕ) (m : ℕ) → length x ≡ 64 → m < 128 → get_or (twice x) m 0 ≡ get_or x (m % 64) 0
twice_at x m long h = elim (cases_lt m 64) [
  | inl l ↦
      (let e : m % 64 ≡ m = omega arith in
      get_or-put_chunk_below 64 (put_chunk 0 (replicate 128 0) x) x m 0 l ∙ ap (λ i. get_or (put_chunk 0 (replicate 128 0) x) i 0) (sym (zero-add m)) ∙ get_or-put_chunk_at 0 (replicate 128 0) x m 0 (omega arith) (omega arith) ∙ ap (λ i. get_or x i 0) (sym e))
  | inr g ↦
      (let e : 64 + m % 64 ≡ m = omega arith in
      ap (λ i. get_or (twice x) i 0) (sym e) ∙ get_or-put_chunk_at 64 (put_chunk 0 (replicate 128 0) x) x (m % 64) 0 (omega arith) (omega (arith, length-put_chunk 0 (replicate 128 0) x)))
]

turned : (x : List ℕ) (at i : ℕ) → length x ≡ 64 → at ≤ 64 → i < 64 → get_or (chunk at 64 (twice x)) i 0 ≡ get_or x ((at + i) % 64) 0
turned x at i long h g = get_or-chunk at 64 (twice x) i 0 g ∙ twice_at x (at + i) long (omega arith)

length-turned : (x : List ℕ) (at : ℕ) → at ≤ 64 → length (chunk at 64 (twice x)) ≡ 64
length-turned x at h = length-chunk at 64 (twice x) (omega (arith, length-put_chunk 64 (put_chunk 0 (replicate 128 0) x) x, length-put_chunk 0 (replicate 128 0) x))

abbrev pub moved : List ℕ → ℕ → List ℕ
moved x k = zip2 bit_or (map (up (k % 64)) (chunk (64 - k / 64) 64 (twice x))) (map (down (k % 64)) (chunk (63 - k / 64) 64 (twice x)))

pub words-moved : (x : List ℕ) (k : ℕ) → AreLanes x → k < 4096 → (v : ℕ) → v < 4096 → words (moved x k) v ≡ words x (minus v k)
words-moved x k is small v h = words_bit (moved x k) v h ∙ ap (λ y. bit_at y (v % 64) == 1) lane ∙ or_bit (up r n) (down r f) j ∙ cases (cases_lt j r) ∙ sym (words_bit x (minus v k) (omega arith))
  where
    r : ℕ
    r = k % 64

    j : ℕ
    j = v % 64

    i : ℕ
    i = v / 64

    n : ℕ
    n = get_or x ((64 - k / 64 + i) % 64) 0

    f : ℕ
    f = get_or x ((63 - k / 64 + i) % 64) 0

    lane : get_or (moved x k) i 0 ≡ bit_or (up r n) (down r f)
    lane =
        let ln : length (chunk (64 - k / 64) 64 (twice x)) ≡ 64 = length-turned x (64 - k / 64) (omega arith) in
        let lf : length (chunk (63 - k / 64) 64 (twice x)) ≡ 64 = length-turned x (63 - k / 64) (omega arith) in
        let inside : i < 64 = omega arith in
        get_or-zip2 bit_or (map (up r) (chunk (64 - k / 64) 64 (twice x))) (map (down r) (chunk (63 - k / 64) 64 (twice x))) i 0 0 0
        (omega (arith, length-map (chunk (64 - k / 64) 64 (twice x)) (up r), ln)) (omega (arith, length-map (chunk (63 - k / 64) 64 (twice x)) (down r), lf))
        ∙ ap (λ y. bit_or y (get_or (map (down r) (chunk (63 - k / 64) 64 (twice x))) i 0))
        (get_or-map (up r) (chunk (64 - k / 64) 64 (twice x)) i 0 0 (omega (arith, ln)) ∙ ap (up r) (turned x (64 - k / 64) i is.long (omega arith) inside))
        ∙ ap (λ y. bit_or (up r n) y)
        (get_or-map (down r) (chunk (63 - k / 64) 64 (twice x)) i 0 0 (omega (arith, lf)) ∙ ap (down r) (turned x (63 - k / 64) i is.long (omega arith) inside))

    cases : (j < r) ⊎ (r ≤ j) → ((bit_at (up r n) j == 1) || (bit_at (down r f) j == 1)) ≡ (bit_at (get_or x (minus v k / 64) 0) (minus v k % 64) == 1)
    cases (inl l) = ap (λ y. (y == 1) || (bit_at (down r f) j == 1)) (up_low n r j (omega arith) l) ∙ ap (λ y. y == 1) (down_bit f r j (omega arith) ∙ from_far k v small h l)
      where
        from_far : (k v : ℕ) → k < 4096 → v < 4096 → v % 64 < k % 64 →
            bit_at (get_or x ((63 - k / 64 + v / 64) % 64) 0) (64 - k % 64 + v % 64) ≡ bit_at (get_or x (minus v k / 64) 0) (minus v k % 64)
        from_far k v hk hv l =
            let a : (63 - k / 64 + v / 64) % 64 ≡ minus v k / 64 = omega arith in
            let b : 64 - k % 64 + v % 64 ≡ minus v k % 64 = omega arith in
            ap (λ i. bit_at (get_or x i 0) (64 - k % 64 + v % 64)) a ∙ ap (λ j. bit_at (get_or x (minus v k / 64) 0) j) b
    cases (inr g) =
        ap (λ y. (bit_at (up r n) j == 1) || (y == 1)) (down_bit f r j (omega arith) ∙ bit_at_above f 64 (64 - r + j) (is.fit ((63 - k / 64 + i) % 64)) (omega arith))
        ∙ or_false (bit_at (up r n) j == 1)
        ∙ ap (λ y. y == 1) (up_high n r j (omega arith) g ∙ from_near k v small h g)
      where
        from_near : (k v : ℕ) → k < 4096 → v < 4096 → k % 64 ≤ v % 64 →
            bit_at (get_or x ((64 - k / 64 + v / 64) % 64) 0) (v % 64 - k % 64) ≡ bit_at (get_or x (minus v k / 64) 0) (minus v k % 64)
        from_near k v hk hv l =
            let a : (64 - k / 64 + v / 64) % 64 ≡ minus v k / 64 = omega arith in
            let b : v % 64 - k % 64 ≡ minus v k % 64 = omega arith in
            ap (λ i. bit_at (get_or x i 0) (v % 64 - k % 64)) a ∙ ap (λ j. bit_at (get_or x (minus v k / 64) 0) j) b

-- the same, from what the steps gave
pub words-shift : (x near far lanes : List ℕ) (k : ℕ) → AreLanes x → k < 4096
    → near ≡ chunk (64 - k / 64) 64 (twice x) → far ≡ chunk (63 - k / 64) 64 (twice x)
    → lanes ≡ zip2 bit_or (map (up (k % 64)) near) (map (down (k % 64)) far)
    → (v : ℕ) → v < 4096 → words lanes v ≡ words x (minus v k)
words-shift x near far lanes k is small c d e v h =
    let lanes_is : lanes ≡ moved x k = e ∙ ap (λ t. zip2 bit_or (map (up (k % 64)) t) (map (down (k % 64)) far)) c
    ∙ ap (λ t. zip2 bit_or (map (up (k % 64)) (chunk (64 - k / 64) 64 (twice x))) (map (down (k % 64)) t)) d in
    ap (λ l. words l v) lanes_is ∙ words-moved x k is small v h
