-- One bit put in, and the parts of a mask.
use Rattle.std.proofs.Common.{◌≡◌, ◌≢◌, ℕ, zero, suc, ◌+◌, ◌-◌, ◌*◌, ◌/◌, ◌%◌, ◌^◌, ◌<◌, ◌≤◌, ◌==◌, Bool, true, ◌&&◌, ◌||◌, List, [], ◌∷◌, get_or, refl, sym, ◌∙◌, ap, inl, inr, arith, ◌⊎◌, not, lit<, zero-mul, zero-add}
use Rattle.std.specs.Prelude.{bit_or, bit_and, max, min}
use Rattle.std.specs.Int.{bit_at}
use Rattle.std.proofs.lemmas.Bool.{cases_eq, cases_lt, eqb-true, eq-eqb, ne_eqb}
use Rattle.std.proofs.lemmas.Nat.{pow-add, pow_pos, mod-pow-add, or_lt, and_le_l}
use Rattle.std.proofs.lemmas.Nat.Bits.{bit_at-zero, bit_at-lt, bit_at_cat_low, shr_and_one, bit_at_ones, bit_at_or, bit_at_and, same_from_bits, bit_at_above, and_pow, bit_at-pow_same, bit_at-pow_other}
use Rattle.std.proofs.Math.Nat.{div-div-eq-div-mul}
use lib.Bits.{or_add_and}
use Rattle.std.specs.Int.Bits.{or_zero_r}
use Rattle.wordset.proofs.Shifts.{bit_mod}
use lib.Pow.{pow_mono}
use Rattle.wordset.specs.Bits.{has_bit, doubled}
use Rattle.wordset.specs.Words.{Words, SameWords, some_below, or_any, minus}
use Rattle.wordset.specs.Lanes.{words}
use Rattle.wordset.proofs.SetLemmas.{words_bit}
use Rattle.wordset.proofs.Tests.{true_false, both_ways, some_from, some_to, IsSome, and_both, and_first, and_second, or_left, or_right, or_cases}

-- ---- the words with a bit

unfoldable pub every : ℕ → (ℕ → Bool) → Bool
every zero test = true
every (suc n) test = test n && every n test

pub every_at : (n : ℕ) (test : ℕ → Bool) → every n test ≡ true → (k : ℕ) → k < n → test k ≡ true
unfolding every
every_at zero test e k h = absurd (omega arith)
every_at (suc n) test e k h = elim (cases_eq k n) [
  | inl q ↦ ap test q ∙ and_first (test n) (every n test) e
  | inr m ↦ every_at n test (and_second (test n) (every n test) e) k (omega arith)
]

abbrev pub patterns : List ℕ
patterns = 12297829382473034410 ∷ 14757395258967641292 ∷ 17361641481138401520 ∷ 18374966859414961920 ∷ 18446462603027742720 ∷ 18446744069414584320 ∷ []

table : every 6 (λ at. every 64 (λ j. bit_at (get_or patterns at 0) j == bit_at j at)) ≡ true
unfolding every
table = refl

pub low_pattern : (at i j : ℕ) → at < 6 → j < 64 → (bit_at (get_or patterns at 0) j == 1) ≡ has_bit at (64 * i + j)
low_pattern at i j h g =
    let row : every 64 (λ j. bit_at (get_or patterns at 0) j == bit_at j at) ≡ true = every_at 6 (λ at. every 64 (λ j. bit_at (get_or patterns at 0) j == bit_at j at)) table at h in
    let cell : bit_at (get_or patterns at 0) j ≡ bit_at j at = eqb-true _ _ (every_at 64 (λ j. bit_at (get_or patterns at 0) j == bit_at j at) row j g) in
    let order : i * 2 ^ 6 + j ≡ 64 * i + j = omega arith in
    ap (λ b. b == 1) (cell ∙ sym (bit_at_cat_low i 6 j at h) ∙ ap (λ n. bit_at n at) order)

high_bit : (at i j : ℕ) → 6 ≤ at → j < 64 → bit_at (64 * i + j) at ≡ bit_and (i / 2 ^ (at - 6)) 1
high_bit at i j h g =
    let e : at ≡ 6 + (at - 6) = omega arith in
    let lane : (64 * i + j) / 2 ^ 6 ≡ i = omega arith in
    ap (λ k. (64 * i + j) / k % 2) (ap (λ k. 2 ^ k) e ∙ pow-add 2 6 (at - 6))
    ∙ ap (λ k. k % 2) (sym (div-div-eq-div-mul (64 * i + j) (2 ^ 6) (2 ^ (at - 6))) ∙ ap (λ k. k / 2 ^ (at - 6)) lane)
    ∙ sym (shr_and_one i (at - 6))

pub high_set : (at i j : ℕ) → 6 ≤ at → j < 64 → bit_and (i / 2 ^ (at - 6)) 1 ≡ 1 → (bit_at 18446744073709551615 j == 1) ≡ has_bit at (64 * i + j)
high_set at i j h g e = ap (λ b. b == 1) (bit_at_ones 64 j g ∙ sym (high_bit at i j h g ∙ e))

pub high_clear : (at i j : ℕ) → 6 ≤ at → j < 64 → bit_and (i / 2 ^ (at - 6)) 1 ≢ 1 → (bit_at 0 j == 1) ≡ has_bit at (64 * i + j)
high_clear at i j h g n = ap (λ b. b == 1) (bit_at-zero j) ∙ sym (ne_eqb (bit_at (64 * i + j) at) 1 (λ e. n (sym (high_bit at i j h g) ∙ e)))

pub words-having : (lanes : List ℕ) (at v : ℕ) → ((k j : ℕ) → k < 64 → j < 64 → (bit_at (get_or lanes k 0) j == 1) ≡ has_bit at (64 * k + j)) → v < 4096 → words lanes v ≡ has_bit at v
words-having lanes at v each h =
    let e : 64 * (v / 64) + v % 64 ≡ v = omega arith in
    words_bit lanes v h ∙ each (v / 64) (v % 64) (omega arith) (omega arith) ∙ ap (λ n. has_bit at n) e

pub weight_small : (at : ℕ) → at < 12 → 2 ^ at < 4096
weight_small at h = let m : 2 ^ at ≤ 2 ^ 11 = pow_mono {i = at} {j = 11} (omega arith) in omega arith

pub small_weight : (at : ℕ) → at < 12 → 1 * 2 ^ at % 2 ^ 64 ≡ 2 ^ at
small_weight at h = omega (arith, weight_small at h)

-- ---- parts of a mask

part_bits : (m k j : ℕ) → bit_and m k ≡ m → bit_at m j ≤ bit_at k j
part_bits m k j e = let b : bit_at m j ≡ min (bit_at m j) (bit_at k j) = ap (λ n. bit_at n j) (sym e) ∙ bit_at_and m k j in omega arith

part_from_bits : (m k : ℕ) → ((j : ℕ) → bit_at m j ≤ bit_at k j) → bit_and m k ≡ m
part_from_bits m k h = same_from_bits (bit_and m k) m (λ j. let le : bit_at m j ≤ bit_at k j = h j in bit_at_and m k j ∙ (let e : min (bit_at m j) (bit_at k j) ≡ bit_at m j = omega arith in e))

-- the mask has no bit at, and the next one has that bit more
pub record NextMask (at k next : ℕ) : Type 0 where
  pub small : at < 12
  pub none : bit_at k at ≡ 0
  pub some : bit_at next at ≡ 1
  pub others : (j : ℕ) → j ≢ at → bit_at next j ≡ bit_at k j

-- v is a word of a with a part of the mask put in
record IsJoined (k : ℕ) (a : Words) (v : ℕ) : Type 0 where
  word : ℕ
  word_small : word < 4096
  within : a word ≡ true
  part : ℕ
  part_small : part < 4096
  is_part : bit_and part k ≡ part
  whole : bit_or word part ≡ v

from_any : (k : ℕ) (a : Words) (v : ℕ) → or_any k a v ≡ true → IsJoined k a v
from_any k a v e =
    let s : IsSome 4096 (λ x. a x && some_below 4096 (λ m. (bit_and m k == m) && (bit_or x m == v))) = some_to 4096 (λ x. a x && some_below 4096 (λ m. (bit_and m k == m) && (bit_or x m == v))) e in
    let t : IsSome 4096 (λ m. (bit_and m k == m) && (bit_or s.at m == v)) =
    some_to 4096 (λ m. (bit_and m k == m) && (bit_or s.at m == v)) (and_second (a s.at) (some_below 4096 (λ m. (bit_and m k == m) && (bit_or s.at m == v))) s.holds) in
    record {
      word = s.at;
      word_small = s.small;
      within = and_first (a s.at) (some_below 4096 (λ m. (bit_and m k == m) && (bit_or s.at m == v))) s.holds;
      part = t.at;
      part_small = t.small;
      is_part = eqb-true _ _ (and_first (bit_and t.at k == t.at) (bit_or s.at t.at == v) t.holds);
      whole = eqb-true _ _ (and_second (bit_and t.at k == t.at) (bit_or s.at t.at == v) t.holds);
    }

to_any : (k : ℕ) (a : Words) (v : ℕ) → IsJoined k a v → or_any k a v ≡ true
to_any k a v s =
    some_from 4096 (λ x. a x && some_below 4096 (λ m. (bit_and m k == m) && (bit_or x m == v))) s.word s.word_small
    (and_both (a s.word) (some_below 4096 (λ m. (bit_and m k == m) && (bit_or s.word m == v))) s.within
    (some_from 4096 (λ m. (bit_and m k == m) && (bit_or s.word m == v)) s.part s.part_small
    (and_both (bit_and s.part k == s.part) (bit_or s.word s.part == v) (eq-eqb _ _ s.is_part) (eq-eqb _ _ s.whole))))

-- a bit that isn't there is put in by adding its weight
pub add_bit : (u at : ℕ) → bit_at u at ≡ 0 → bit_or u (2 ^ at) ≡ u + 2 ^ at
add_bit u at e = let z : bit_and u (2 ^ at) ≡ 0 = and_pow u at ∙ ap (λ b. b * 2 ^ at) e ∙ zero-mul (2 ^ at) in omega (arith, or_add_and u (2 ^ at))

-- the sum with the bits of the mask alone, from a sum with a part of the next mask
joined_bit : (x m k j : ℕ) → bit_at (bit_or x (bit_and m k)) j ≡ max (bit_at x j) (min (bit_at m j) (bit_at k j))
joined_bit x m k j = bit_at_or x (bit_and m k) j ∙ ap (λ b. max (bit_at x j) b) (bit_at_and m k j)

module _ (at k next : ℕ) (is : NextMask at k next) (a : Words) (v : ℕ) (small : v < 4096) where
  abbrev less : ℕ
  less = minus v (2 ^ at)

  grows : or_any k a v ≡ true → or_any next a v ≡ true
  grows e = let s : IsJoined k a v = from_any k a v e in
      to_any next a v (record {
        word = s.word;
        word_small = s.word_small;
        within = s.within;
        part = s.part;
        part_small = s.part_small;
        whole = s.whole;
        is_part = part_from_bits s.part next (λ j. up s.part s.is_part j (cases_eq j at));
      })
    where
      up : (m : ℕ) → bit_and m k ≡ m → (j : ℕ) → (j ≡ at) ⊎ (j ≢ at) → bit_at m j ≤ bit_at next j
      up m e j (inl q) = let n : bit_at next j ≡ 1 = ap (λ i. bit_at next i) q ∙ is.some in omega (arith, bit_at-lt m j)
      up m e j (inr q) = omega (arith, is.others j q, part_bits m k j e)

  -- from the smaller mask, with the bit put in
  lifts : or_any k a less ≡ true → bit_at less at ≡ 0 → or_any next a v ≡ true
  lifts e none =
      let s : IsJoined k a less = from_any k a less e in
      let weight : 2 ^ at < 4096 = weight_small at is.small in
      let below : less < 4096 = omega arith in
      let sum : bit_or less (2 ^ at) ≡ less + 2 ^ at = add_bit less at none in
      let fits : bit_or less (2 ^ at) < 4096 = or_lt 12 less (2 ^ at) below weight in
      let all : less + 2 ^ at ≡ v = omega arith in
      to_any next a v (record {
        word = s.word;
        word_small = s.word_small;
        within = s.within;
        part = bit_or s.part (2 ^ at);
        part_small = or_lt 12 s.part (2 ^ at) s.part_small weight;
        whole = or_assoc' s.word s.part (2 ^ at) ∙ ap (λ n. bit_or n (2 ^ at)) s.whole ∙ sum ∙ all;
        is_part = part_from_bits (bit_or s.part (2 ^ at)) next (λ j. up s.part s.is_part j (cases_eq j at));
      })
    where
      up : (m : ℕ) → bit_and m k ≡ m → (j : ℕ) → (j ≡ at) ⊎ (j ≢ at) → bit_at (bit_or m (2 ^ at)) j ≤ bit_at next j
      up m e j (inl q) = let n : bit_at next j ≡ 1 = ap (λ i. bit_at next i) q ∙ is.some in omega (arith, bit_at-lt (bit_or m (2 ^ at)) j)
      up m e j (inr q) = omega (arith, is.others j q, part_bits m k j e, bit_at_or m (2 ^ at) j, bit_at-pow_other at j q)

      or_assoc' : (x y z : ℕ) → bit_or x (bit_or y z) ≡ bit_or (bit_or x y) z
      or_assoc' x y z = same_from_bits _ _ (λ j. omega (arith, bit_at_or x (bit_or y z) j, bit_at_or y z j, bit_at_or (bit_or x y) z j, bit_at_or x y j))

  lowers : or_any next a v ≡ true → (or_any k a v || (or_any k a less && not (has_bit at less))) ≡ true
  lowers e = go (from_any next a v e)
    where
      kept : IsJoined next a v → ℕ
      kept s = bit_or s.word (bit_and s.part k)

      other : (s : IsJoined next a v) (j : ℕ) → j ≢ at → bit_at (bit_or s.word (bit_and s.part k)) j ≡ bit_at v j
      other s j q = omega (arith, joined_bit s.word s.part k j, part_bits s.part next j s.is_part, is.others j q, ap (λ n. bit_at n j) (sym s.whole), bit_at_or s.word s.part j)

      here : (s : IsJoined next a v) → bit_at (bit_or s.word (bit_and s.part k)) at ≡ bit_at s.word at
      here s = omega (arith, joined_bit s.word s.part k at, is.none)

      is_part : (m : ℕ) → bit_and (bit_and m k) k ≡ bit_and m k
      is_part m = same_from_bits _ _ (λ j. omega (arith, bit_at_and (bit_and m k) k j, bit_at_and m k j))

      joined : (s : IsJoined next a v) (w : ℕ) → bit_or s.word (bit_and s.part k) ≡ w → or_any k a w ≡ true
      joined s w f = to_any k a w (record {
        word = s.word;
        word_small = s.word_small;
        within = s.within;
        part = bit_and s.part k;
        part_small = omega (arith, s.part_small, and_le_l s.part k);
        is_part = is_part s.part;
        whole = f;
      })

      go : IsJoined next a v → (or_any k a v || (or_any k a less && not (has_bit at less))) ≡ true
      go s = elim (cases_eq (bit_at v at) (bit_at s.word at)) [
        | inl q ↦
            or_left (or_any k a v) (or_any k a less && not (has_bit at less))
            (joined s v (same_from_bits _ _ (λ j. elim (cases_eq j at) [ inl p ↦ ap (λ i. bit_at (bit_or s.word (bit_and s.part k)) i) p ∙ here s ∙ sym q ∙ ap (λ i. bit_at v i) (sym p) | inr p ↦ other s j p ])))
        | inr q ↦
            (let u : ℕ = bit_or s.word (bit_and s.part k) in
            let top : bit_at v at ≡ max (bit_at s.word at) (bit_at s.part at) = ap (λ n. bit_at n at) (sym s.whole) ∙ bit_at_or s.word s.part at in
            let v_has : bit_at v at ≡ 1 = omega (arith, bit_at-lt v at, bit_at-lt s.word at) in
            let u_lacks : bit_at (bit_or s.word (bit_and s.part k)) at ≡ 0 = omega (arith, here s, bit_at-lt v at, bit_at-lt s.word at) in
            let whole : bit_or (bit_or s.word (bit_and s.part k)) (2 ^ at) ≡ v = same_from_bits _ _ (λ j. put s u_lacks v_has j (cases_eq j at)) in
            let sum : bit_or (bit_or s.word (bit_and s.part k)) (2 ^ at) ≡ bit_or s.word (bit_and s.part k) + 2 ^ at = add_bit (bit_or s.word (bit_and s.part k)) at u_lacks in
            let weight : 2 ^ at < 4096 = weight_small at is.small in
            let same : bit_or s.word (bit_and s.part k) ≡ less = omega arith in
            or_right (or_any k a v) (or_any k a less && not (has_bit at less))
            (and_both (or_any k a less) (not (has_bit at less)) (joined s less same)
            (ap not (ap (λ n. bit_at n at == 1) (sym same) ∙ ap (λ b. b == 1) u_lacks))))
      ]
        where
          put : (s : IsJoined next a v) → bit_at (bit_or s.word (bit_and s.part k)) at ≡ 0 → bit_at v at ≡ 1 → (j : ℕ) → (j ≡ at) ⊎ (j ≢ at)
              → bit_at (bit_or (bit_or s.word (bit_and s.part k)) (2 ^ at)) j ≡ bit_at v j
          put s z o j (inl p) = ap (λ i. bit_at (bit_or (bit_or s.word (bit_and s.part k)) (2 ^ at)) i) p
              ∙ omega (arith, bit_at_or (bit_or s.word (bit_and s.part k)) (2 ^ at) at, bit_at-pow_same at) ∙ ap (λ i. bit_at v i) (sym p)
          put s z o j (inr p) = omega (arith, bit_at_or (bit_or s.word (bit_and s.part k)) (2 ^ at) j, bit_at-pow_other at j p, other s j p)

  pub doubled-any : doubled at (or_any k a) v ≡ or_any next a v
  doubled-any = both_ways (doubled at (or_any k a) v) (or_any next a v) (λ e. elim (or_cases (or_any k a v) (or_any k a less && not (has_bit at less)) e) [
    | inl t ↦ grows t
    | inr t ↦ lifts (and_first (or_any k a less) (not (has_bit at less)) t) (lacks less (and_second (or_any k a less) (not (has_bit at less)) t))
  ]) lowers
    where
      lacks : (u : ℕ) → not (has_bit at u) ≡ true → bit_at u at ≡ 0
      lacks u e = elim (cases_eq (bit_at u at) 1) [ inl q ↦ absurd (true_false (sym e ∙ ap not (eq-eqb (bit_at u at) 1 q))) | inr n ↦ omega (arith, bit_at-lt u at) ]

-- ---- the mask bit by bit

pub next_mask : (mask at : ℕ) → at < 12 → bit_at mask at ≡ 1 → NextMask at (mask % 2 ^ at) (mask % 2 ^ (at + 1))
next_mask mask at h e = record {
  small = h;
  none = bit_at_above (mask % 2 ^ at) at at low (omega arith);
  some = bit_mod mask (at + 1) at (omega arith) ∙ e;
  others = λ j n. elim (cases_lt j at) [
    | inl l ↦ bit_mod mask (at + 1) j (omega arith) ∙ sym (bit_mod mask at j l)
    | inr g ↦ (let above : at + 1 ≤ j = omega arith in bit_at_above (mask % 2 ^ (at + 1)) (at + 1) j high above ∙ sym (bit_at_above (mask % 2 ^ at) at j low g))
  ];
}
  where
    low : mask % 2 ^ at < 2 ^ at
    low = omega (arith, pow_pos at)

    high : mask % 2 ^ (at + 1) < 2 ^ (at + 1)
    high = omega (arith, pow_pos (at + 1))

pub step_with : (mask at : ℕ) (a : Words) (v : ℕ) → v < 4096 → at < 12 → bit_at mask at ≡ 1 → doubled at (or_any (mask % 2 ^ at) a) v ≡ or_any (mask % 2 ^ (at + 1)) a v
step_with mask at a v small h e = doubled-any at (mask % 2 ^ at) (mask % 2 ^ (at + 1)) (next_mask mask at h e) a v small

pub step_without : (mask at : ℕ) → bit_at mask at ≢ 1 → mask % 2 ^ at ≡ mask % 2 ^ (at + 1)
step_without mask at n =
    let zero_bit : bit_at mask at ≡ 0 = omega (arith, bit_at-lt mask at) in
    let order : 1 + at ≡ at + 1 = omega arith in
    sym (ap (λ k. mask % 2 ^ k) (sym order) ∙ mod-pow-add mask 1 at ∙ ap (λ b. b * 2 ^ at + mask % 2 ^ at) zero_bit ∙ ap (λ b. b + mask % 2 ^ at) (zero-mul (2 ^ at)) ∙ zero-add (mask % 2 ^ at))

pub any_none : (mask : ℕ) (a : Words) (v : ℕ) → v < 4096 → a v ≡ or_any (mask % 2 ^ 0) a v
any_none mask a v h = both_ways (a v) (or_any (mask % 2 ^ 0) a v)
    (λ t. to_any (mask % 2 ^ 0) a v (record {
      word = v;
      word_small = h;
      within = t;
      part = 0;
      part_small = lit< tt;
      is_part = part_from_bits 0 (mask % 2 ^ 0) (λ j. omega (arith, bit_at-zero j));
      whole = or_zero_r v;
    }))
    (λ t. let s : IsJoined (mask % 2 ^ 0) a v = from_any (mask % 2 ^ 0) a v t in
    let none : mask % 2 ^ 0 ≡ 0 = omega arith in
    let part_is : s.part ≡ 0 = same_from_bits s.part 0 (λ j. omega (arith, part_bits s.part (mask % 2 ^ 0) j s.is_part, ap (λ k. bit_at k j) none, bit_at-zero j)) in
    ap a (sym s.whole ∙ ap (λ k. bit_or s.word k) part_is ∙ or_zero_r s.word) ∙ s.within)

-- the test of a bit in the code
pub bit_test : (n at : ℕ) → bit_and (n / 2 ^ at) 1 ≡ bit_at n at
bit_test n at = shr_and_one n at

pub doubled_same : (at : ℕ) (a b : Words) → at < 12 → SameWords a b → SameWords (doubled at a) (doubled at b)
doubled_same at a b h same v g = ap (λ p. p || (a (minus v (2 ^ at)) && not (has_bit at (minus v (2 ^ at))))) (same v g)
    ∙ ap (λ p. b v || (p && not (has_bit at (minus v (2 ^ at))))) (same (minus v (2 ^ at)) (omega arith))
