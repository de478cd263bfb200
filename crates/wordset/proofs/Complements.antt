-- The complements of the words of a set: the bits in the opposite order, lane by lane.
use Rattle.std.proofs.Common.{◌≡◌, ℕ, zero, suc, ◌+◌, ◌-◌, ◌*◌, ◌/◌, ◌%◌, ◌^◌, ◌<◌, ◌≤◌, ◌==◌, true, false, ◌&&◌, List, get_or, sym, ◌∙◌, ap, inl, inr, arith, w64}
use Rattle.std.specs.Prelude.{bit_and, bit_or}
use Rattle.std.specs.Int.{bit_at}
use Rattle.std.proofs.lemmas.Bool.{cases_lt, eq-eqb, eqb-true}
use Rattle.std.proofs.lemmas.Nat.{or_lt, and_le_l}
use Rattle.std.proofs.lemmas.Nat.Bits.{bit_at-suc, bit_at_lowest, bit_at-lt, bit_at_or, bit_at_and, bit_at_ones, same_from_bits, same_from_bits_below}
use Rattle.std.proofs.Math.Nat.{pow-succ'}
use Rattle.wordset.specs.Words.{Words, SameWords, some_below, ands, ors, or_any, all_words}
use Rattle.wordset.specs.Lanes.{words}
use Rattle.wordset.proofs.SetLemmas.{words_bit, lt_to}
use Rattle.wordset.proofs.Tests.{both_ways, some_from, some_to, IsSome, and_both, and_first, and_second}
use Rattle.std.proofs.Math.Path.{fun_ext}
use Rattle.wordset.proofs.Ors.{or_swap}

-- ---- all lanes

pub words-mirrored : (x lanes : List ℕ) → ((i : ℕ) → i < 64 → (j : ℕ) → j < 64 → bit_at (get_or lanes i 0) j ≡ bit_at (get_or x (63 - i) 0) (63 - j)) → (v : ℕ) → v < 4096 → words lanes v ≡ words x (4095 - v)
words-mirrored x lanes each v h =
    let lane : 63 - v / 64 ≡ (4095 - v) / 64 = omega arith in
    let bit : 63 - v % 64 ≡ (4095 - v) % 64 = omega arith in
    words_bit lanes v h
    ∙ ap (λ b. b == 1) (each (v / 64) (omega arith) (v % 64) (omega arith) ∙ ap (λ i. bit_at (get_or x i 0) (63 - v % 64)) lane ∙ ap (λ j. bit_at (get_or x ((4095 - v) / 64) 0) j) bit)
    ∙ sym (words_bit x (4095 - v) (omega arith))

-- ---- the and of two words is the complement of the or of their complements

pub flipped : (k x j : ℕ) → x < 2 ^ k → j < k → bit_at (2 ^ k - 1 - x) j ≡ 1 - bit_at x j
flipped zero x j h g = absurd (omega arith)
flipped (suc k) x zero h g =
    let twice : 2 ^ suc k ≡ 2 * 2 ^ k = pow-succ' 2 k in
    let odd : (2 ^ suc k - 1 - x) % 2 ≡ 1 - x % 2 = omega arith in
    bit_at_lowest (2 ^ suc k - 1 - x) ∙ odd ∙ ap (λ b. 1 - b) (sym (bit_at_lowest x))
flipped (suc k) x (suc j) h g =
    let twice : 2 ^ suc k ≡ 2 * 2 ^ k = pow-succ' 2 k in
    let half : (2 ^ suc k - 1 - x) / 2 ≡ 2 ^ k - 1 - x / 2 = omega arith in
    bit_at-suc (2 ^ suc k - 1 - x) j ∙ ap (λ m. bit_at m j) half ∙ flipped k (x / 2) j (omega arith) (omega arith) ∙ ap (λ b. 1 - b) (sym (bit_at-suc x j))

or_of_complements : (x y : ℕ) → x < 4096 → y < 4096 → bit_or (4095 - x) (4095 - y) ≡ 4095 - bit_and x y
or_of_complements x y hx hy =
    let below : bit_and x y ≤ x = and_le_l x y in
    same_from_bits_below 12 (bit_or (4095 - x) (4095 - y)) (4095 - bit_and x y) (or_lt 12 (4095 - x) (4095 - y) (omega arith) (omega arith)) (omega arith)
    (λ j h. let fx : bit_at (4095 - x) j ≡ 1 - bit_at x j = flipped 12 x j hx h in
    let fy : bit_at (4095 - y) j ≡ 1 - bit_at y j = flipped 12 y j hy h in
    let fa : bit_at (4095 - bit_and x y) j ≡ 1 - bit_at (bit_and x y) j = flipped 12 (bit_and x y) j (omega arith) h in
    omega (arith, bit_at_or (4095 - x) (4095 - y) j, bit_at_and x y j, bit_at-lt x j, bit_at-lt y j))

record IsPair (f : ℕ → ℕ → ℕ) (a b : Words) (v : ℕ) : Type 0 where
  x : ℕ
  y : ℕ
  x_small : x < 4096
  y_small : y < 4096
  x_in : a x ≡ true
  y_in : b y ≡ true
  is : f x y ≡ v

-- the images of pairs
abbrev pub pairs : (ℕ → ℕ → ℕ) → Words → Words → Words
pairs f a b v = some_below 4096 (λ x. a x && some_below 4096 (λ y. b y && (f x y == v)))

to_pairs : (f : ℕ → ℕ → ℕ) (a b : Words) (v : ℕ) → IsPair f a b v → pairs f a b v ≡ true
to_pairs f a b v p =
    some_from 4096 (λ x. a x && some_below 4096 (λ y. b y && (f x y == v))) p.x p.x_small
    (and_both (a p.x) (some_below 4096 (λ y. b y && (f p.x y == v))) p.x_in
    (some_from 4096 (λ y. b y && (f p.x y == v)) p.y p.y_small (and_both (b p.y) (f p.x p.y == v) p.y_in (eq-eqb _ _ p.is))))

from_pairs : (f : ℕ → ℕ → ℕ) (a b : Words) (v : ℕ) → pairs f a b v ≡ true → IsPair f a b v
from_pairs f a b v e =
    let s : IsSome 4096 (λ x. a x && some_below 4096 (λ y. b y && (f x y == v))) = some_to 4096 (λ x. a x && some_below 4096 (λ y. b y && (f x y == v))) e in
    let t : IsSome 4096 (λ y. b y && (f s.at y == v)) = some_to 4096 (λ y. b y && (f s.at y == v)) (and_second (a s.at) (some_below 4096 (λ y. b y && (f s.at y == v))) s.holds) in
    record {
      x = s.at;
      y = t.at;
      x_small = s.small;
      y_small = t.small;
      x_in = and_first (a s.at) (some_below 4096 (λ y. b y && (f s.at y == v))) s.holds;
      y_in = and_first (b t.at) (f s.at t.at == v) t.holds;
      is = eqb-true _ _ (and_second (b t.at) (f s.at t.at == v) t.holds);
    }

twice_over : (v : ℕ) → v < 4096 → 4095 - (4095 - v) ≡ v
twice_over v h = omega arith

-- The words of a set by their complements, whatever it says of larger numbers.
abbrev pub turned : Words → Words
turned set v = set (4095 - v)

-- from sets that are the complements of a and b
pub ands-complements : (a b ca cb : Words) → SameWords ca (turned a) → SameWords cb (turned b) → SameWords (turned (ors ca cb)) (ands a b)
ands-complements a b ca cb is_a is_b v h = both_ways (ors ca cb (4095 - v)) (ands a b v)
    (λ t. let p : IsPair bit_or ca cb (4095 - v) = from_pairs bit_or ca cb (4095 - v) t in
    let below : bit_and (4095 - p.x) (4095 - p.y) ≤ 4095 - p.x = and_le_l (4095 - p.x) (4095 - p.y) in
    let law : bit_or (4095 - (4095 - p.x)) (4095 - (4095 - p.y)) ≡ 4095 - bit_and (4095 - p.x) (4095 - p.y) = or_of_complements (4095 - p.x) (4095 - p.y) (omega arith) (omega arith) in
    let both : bit_or p.x p.y ≡ 4095 - bit_and (4095 - p.x) (4095 - p.y) =
    ap (λ n. bit_or n p.y) (sym (twice_over p.x p.x_small)) ∙ ap (λ n. bit_or (4095 - (4095 - p.x)) n) (sym (twice_over p.y p.y_small)) ∙ law in
    let whole : bit_or p.x p.y ≡ 4095 - v = p.is in
    to_pairs bit_and a b v (record {
      x = 4095 - p.x;
      y = 4095 - p.y;
      x_small = omega arith;
      y_small = omega arith;
      x_in = sym (is_a p.x p.x_small) ∙ p.x_in;
      y_in = sym (is_b p.y p.y_small) ∙ p.y_in;
      is = omega arith;
    }))
    (λ t. let p : IsPair bit_and a b v = from_pairs bit_and a b v t in
    to_pairs bit_or ca cb (4095 - v) (record {
      x = 4095 - p.x;
      y = 4095 - p.y;
      x_small = omega arith;
      y_small = omega arith;
      x_in = is_a (4095 - p.x) (omega arith) ∙ ap a (twice_over p.x p.x_small) ∙ p.x_in;
      y_in = is_b (4095 - p.y) (omega arith) ∙ ap b (twice_over p.y p.y_small) ∙ p.y_in;
      is = or_of_complements p.x p.y p.x_small p.y_small ∙ ap (λ n. 4095 - n) p.is;
    }))

-- ---- no number from 4096 on is an image of two words

pairs_past : (f : ℕ → ℕ → ℕ) (a b : Words) → ((x y : ℕ) → x < 4096 → y < 4096 → f x y < 4096) → (v : ℕ) → 4096 ≤ v → pairs f a b v ≡ false
pairs_past f a b small v g = both_ways (pairs f a b v) false
    (λ t. let p : IsPair f a b v = from_pairs f a b v t in let less : f p.x p.y < 4096 = small p.x p.y p.x_small p.y_small in let is : f p.x p.y ≡ v = p.is in absurd (omega arith))
    (λ e. absurd (let z : ⊥ = cc in z))

or_small : (x y : ℕ) → x < 4096 → y < 4096 → bit_or x y < 4096
or_small x y h g = or_lt 12 x y h g

pub ands_past : (a b : Words) (v : ℕ) → 4096 ≤ v → ands a b v ≡ false
ands_past a b = pairs_past bit_and a b (λ x y h g. omega (arith, and_le_l x y))

pub any_past : (mask : ℕ) (a : Words) (v : ℕ) → 4096 ≤ v → or_any mask a v ≡ false
any_past mask a = pairs_past bit_or a (λ m. bit_and m mask == m) or_small

-- ---- either set may be gone through

pairs_swap : (f : ℕ → ℕ → ℕ) (a b : Words) (v : ℕ) → ((x y : ℕ) → f x y ≡ f y x) → pairs f a b v ≡ true → pairs f b a v ≡ true
pairs_swap f a b v turns t =
    let p : IsPair f a b v = from_pairs f a b v t in
    to_pairs f b a v (record { x = p.y; y = p.x; x_small = p.y_small; y_small = p.x_small; x_in = p.y_in; y_in = p.x_in; is = turns p.y p.x ∙ p.is })

and_swap : (x y : ℕ) → bit_and x y ≡ bit_and y x
and_swap x y = same_from_bits _ _ (λ j. omega (arith, bit_at_and x y j, bit_at_and y x j))

pub ands_swap : (a b : Words) → ands a b ≡ ands b a
ands_swap a b = fun_ext (λ v. both_ways _ _ (pairs_swap bit_and a b v and_swap) (pairs_swap bit_and b a v and_swap))

pub ors_swap : (a b : Words) → ors a b ≡ ors b a
ors_swap a b = fun_ext (λ v. both_ways _ _ (pairs_swap bit_or a b v or_swap) (pairs_swap bit_or b a v or_swap))

-- ---- all words as the one set: every word is a part of the mask of all bits

pairs_to : (f : ℕ → ℕ → ℕ) (a b c : Words) (v : ℕ) → SameWords b c → pairs f a b v ≡ true → pairs f a c v ≡ true
pairs_to f a b c v same t =
    let p : IsPair f a b v = from_pairs f a b v t in
    to_pairs f a c v (record { x = p.x; y = p.y; x_small = p.x_small; y_small = p.y_small; x_in = p.x_in; y_in = sym (same p.y p.y_small) ∙ p.y_in; is = p.is })

whole_part : (m : ℕ) → m < 4096 → (bit_and m 4095 == m) ≡ all_words m
whole_part m h = eq-eqb _ _ (same_from_bits_below 12 (bit_and m 4095) m (omega (arith, and_le_l m 4095)) h (λ j g. omega (arith, bit_at_and m 4095 j, bit_at_ones 12 j g, bit_at-lt m j))) ∙ sym (lt_to m h)

pub ors_all : (a : Words) → or_any 4095 a ≡ ors a all_words
ors_all a = fun_ext (λ v. both_ways _ _ (pairs_to bit_or a (λ m. bit_and m 4095 == m) all_words v whole_part) (pairs_to bit_or a all_words (λ m. bit_and m 4095 == m) v (λ m g. sym (whole_part m g))))
