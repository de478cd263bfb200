-- A bit of a lane, and the test that it stands for.
use Rattle.std.proofs.Common.{◌≡◌, ◌≢◌, ℕ, zero, suc, ◌+◌, ◌-◌, ◌*◌, ◌/◌, ◌%◌, ◌^◌, ◌<◌, ◌==◌, Bool, true, false, not, ◌&&◌, ◌||◌, List, [], ◌∷◌, length, get_or, replicate, map, refl, sym, ◌∙◌, ap, inl, inr, arith, w64, get_or-set_same, get_or-set_other, IsTrue, lit<, ◌↔◌, ◌⊎◌, length-set}
use Rattle.std.specs.Prelude.{bit_or, bit_and, max, min, slice_set}
use Rattle.std.specs.Int.{bit_at, bit_not}
use Rattle.std.proofs.Math.Path.{fun_ext}
use Rattle.std.proofs.lemmas.Bool.{eq-eqb, eqb-true, ne_eqb, cases_eq, cases_lt}
use Rattle.std.proofs.lemmas.Nat.Bits.{bit_at_or, bit_at_and, bit_at_not, bit_at-zero, bit_at_ones, bit_at-lt, shr_and_one, same_from_bits_below, bit_at_set_same, bit_at_set_other}
use Rattle.std.proofs.lemmas.List.{get_or-replicate, get_or-map, length-map, get_or_past}
use Rattle.std.proofs.lemmas.Simd.{get_or-zip2, length-zip2}
use Rattle.std.proofs.lemmas.Nat.{or_lt, and_le_l, and_le_r}
use Rattle.std.specs.Int.Bits.{or_zero_l}
use lib.Bits.{or_add_and}
use lib.Lanes.{zip2, fold_l}
use Rattle.std.specs.Prelude.{if◌then◌else◌}
use Rattle.wordset.specs.Words.{Words, nothing, all_words, with_word, without, union, meet, difference, one, IsWithin, has_some}
use Rattle.wordset.proofs.Tests.{both_ways, some_none_of, none_of_some}
use Rattle.wordset.proofs.SetLemmas.{words_bit, words_past, words_are, all_past, lt_to}
use Rattle.wordset.specs.Lanes.{words, AreLanes}

-- ---- one bit

or_max : (x y : ℕ) → x < 2 → y < 2 → (max x y == 1) ≡ ((x == 1) || (y == 1))
or_max x y h g = elim (cases_eq x 1) [
  | inl e ↦ (let m : max x y ≡ 1 = omega arith in eq-eqb (max x y) 1 m ∙ sym (or_left (x == 1) (y == 1) (eq-eqb x 1 e)))
  | inr n ↦ (let m : max x y ≡ y = omega arith in let f : (x == 1) ≡ false = ne_eqb x 1 n in rw (m, f) refl)
]
  where
    or_left : (p q : Bool) → p ≡ true → (p || q) ≡ true
    or_left p q t = rw t refl

and_min : (x y : ℕ) → x < 2 → y < 2 → (min x y == 1) ≡ ((x == 1) && (y == 1))
and_min x y h g = elim (cases_eq x 1) [
  | inl e ↦ (let m : min x y ≡ y = omega arith in let f : (x == 1) ≡ true = eq-eqb x 1 e in rw (m, f) refl)
  | inr n ↦ (let m : (min x y ≡ 1) → ⊥ = (λ k. omega arith) in let f : (x == 1) ≡ false = ne_eqb x 1 n in rw f (ne_eqb (min x y) 1 m))
]

not_less : (x : ℕ) → x < 2 → ((1 - x) == 1) ≡ not (x == 1)
not_less x h = elim (cases_eq x 1) [
  | inl e ↦ rw e refl
  | inr n ↦ (let m : x ≡ 0 = omega arith in rw m refl)
]

pub or_bit : (x y j : ℕ) → (bit_at (bit_or x y) j == 1) ≡ ((bit_at x j == 1) || (bit_at y j == 1))
or_bit x y j = rw (bit_at_or x y j) (or_max (bit_at x j) (bit_at y j) (bit_at-lt x j) (bit_at-lt y j))

pub and_bit : (x y j : ℕ) → (bit_at (bit_and x y) j == 1) ≡ ((bit_at x j == 1) && (bit_at y j == 1))
and_bit x y j = rw (bit_at_and x y j) (and_min (bit_at x j) (bit_at y j) (bit_at-lt x j) (bit_at-lt y j))

pub not_bit : (x j : ℕ) → x < 2 ^ 64 → j < 64 → (bit_at (bit_not w64 x) j == 1) ≡ not (bit_at x j == 1)
not_bit x j h g = rw (bit_at_not w64 x j h g) (not_less (bit_at x j) (bit_at-lt x j))

-- ---- a lane's bit is the test of the set

pub words_at : (lanes : List ℕ) (i j : ℕ) → i < 64 → j < 64 → words lanes (64 * i + j) ≡ (bit_at (get_or lanes i 0) j == 1)
words_at lanes i j h g =
    let q : (64 * i + j) / 64 ≡ i = omega arith in
    let r : (64 * i + j) % 64 ≡ j = omega arith in
    words_bit lanes (64 * i + j) (omega arith) ∙ ap (λ k. bit_at (get_or lanes k 0) ((64 * i + j) % 64) == 1) q ∙ ap (λ k. bit_at (get_or lanes i 0) k == 1) r

pub words-or : (a b : List ℕ) → length a ≡ 64 → length b ≡ 64 → (v : ℕ) → v < 4096 → words (zip2 bit_or a b) v ≡ (words a v || words b v)
words-or a b la lb v h =
    let e : get_or (zip2 bit_or a b) (v / 64) 0 ≡ bit_or (get_or a (v / 64) 0) (get_or b (v / 64) 0) = get_or-zip2 bit_or a b (v / 64) 0 0 0 (omega arith) (omega arith) in
    rw (words_bit a v h, words_bit b v h, words_bit (zip2 bit_or a b) v h) (ap (λ x. bit_at x (v % 64) == 1) e ∙ or_bit (get_or a (v / 64) 0) (get_or b (v / 64) 0) (v % 64))

pub words-and : (a b : List ℕ) → length a ≡ 64 → length b ≡ 64 → (v : ℕ) → v < 4096 → words (zip2 bit_and a b) v ≡ (words a v && words b v)
words-and a b la lb v h =
    let e : get_or (zip2 bit_and a b) (v / 64) 0 ≡ bit_and (get_or a (v / 64) 0) (get_or b (v / 64) 0) = get_or-zip2 bit_and a b (v / 64) 0 0 0 (omega arith) (omega arith) in
    rw (words_bit a v h, words_bit b v h, words_bit (zip2 bit_and a b) v h) (ap (λ x. bit_at x (v % 64) == 1) e ∙ and_bit (get_or a (v / 64) 0) (get_or b (v / 64) 0) (v % 64))

pub words-not : (a : List ℕ) → AreLanes a → (v : ℕ) → v < 4096 → words (map (bit_not w64) a) v ≡ not (words a v)
words-not a is v h =
    let long : length a ≡ 64 = is.long in
    let e : get_or (map (bit_not w64) a) (v / 64) 0 ≡ bit_not w64 (get_or a (v / 64) 0) = get_or-map (bit_not w64) a (v / 64) 0 0 (omega arith) in
    rw (words_bit a v h, words_bit (map (bit_not w64) a) v h) (ap (λ x. bit_at x (v % 64) == 1) e ∙ not_bit (get_or a (v / 64) 0) (v % 64) (is.fit (v / 64)) (omega arith))

pub words-minus : (a b : List ℕ) → AreLanes a → AreLanes b → (v : ℕ) → v < 4096 → words (zip2 bit_and a (map (bit_not w64) b)) v ≡ (words a v && not (words b v))
words-minus a b aa bb v h =
    words-and a (map (bit_not w64) b) aa.long (length-map b (bit_not w64) ∙ bb.long) v h ∙ ap (λ t. words a v && t) (words-not b bb v h)

pub words-none : (v : ℕ) → v < 4096 → words (replicate 64 0) v ≡ false
words-none v h =
    let e : get_or {A = ℕ} (replicate 64 0) (v / 64) 0 ≡ 0 = get_or-replicate 64 (v / 64) 0 0 (omega arith) in
    words_bit (replicate 64 0) v h ∙ ap (λ x. bit_at x (v % 64) == 1) e ∙ ap (λ x. x == 1) (bit_at-zero (v % 64))

pub words-all : (v : ℕ) → v < 4096 → words (replicate 64 (2 ^ 64 - 1)) v ≡ true
words-all v h =
    let e : get_or {A = ℕ} (replicate 64 (2 ^ 64 - 1)) (v / 64) 0 ≡ 2 ^ 64 - 1 = get_or-replicate 64 (v / 64) (2 ^ 64 - 1) 0 (omega arith) in
    let small : v % 64 < 64 = omega arith in
    words_bit (replicate 64 (2 ^ 64 - 1)) v h ∙ ap (λ x. bit_at x (v % 64) == 1) e ∙ ap (λ x. x == 1) (bit_at_ones 64 (v % 64) small)

pub filled : (x : ℕ) → x < 2 ^ 64 → AreLanes (replicate 64 x)
filled x h = record { long = refl; fit = λ i. fits i }
  where
    fits : (i : ℕ) → get_or {A = ℕ} (replicate 64 x) i 0 < 2 ^ 64
    fits i = elim (cases_lt i 64) [
      | inl l ↦ (let e : get_or {A = ℕ} (replicate 64 x) i 0 ≡ x = get_or-replicate 64 i x 0 l in omega arith)
      | inr g ↦ (let e : get_or {A = ℕ} (replicate 64 x) i 0 ≡ 0 = get_or_past (replicate 64 x) i 0 g in omega arith)
    ]

-- ---- one word

pub lane_bit : (lanes : List ℕ) (v : ℕ) → v < 4096 → (bit_and (get_or lanes (v / 64) 0 / 2 ^ (v % 64)) 1 == 1) ≡ words lanes v
lane_bit lanes v h = ap (λ x. x == 1) (shr_and_one (get_or lanes (v / 64) 0) (v % 64)) ∙ sym (words_bit lanes v h)

-- the lanes with bit w % 64 of lane w / 64 set
abbrev pub put_in : List ℕ → ℕ → List ℕ
put_in lanes w = slice_set lanes (w / 64) (bit_or (get_or lanes (w / 64) 0) (1 * 2 ^ (w % 64) % 2 ^ 64))

pub or_false : (p : Bool) → (p || false) ≡ p
or_false true = refl
or_false false = refl

or_true : (p : Bool) → (p || true) ≡ true
or_true true = refl
or_true false = refl

pub AreLanes-set : (lanes : List ℕ) (at x : ℕ) → at < 64 → x < 2 ^ 64 → AreLanes lanes → AreLanes (slice_set lanes at x)
AreLanes-set lanes at x h small is = record {
  long = length-set lanes at x ∙ is.long;
  fit = λ i. fits i (cases_eq i at);
}
  where
    fits : (i : ℕ) → (i ≡ at) ⊎ (i ≢ at) → get_or (slice_set lanes at x) i 0 < 2 ^ 64
    fits i (inl e) = let lt : at < length lanes = omega (arith, is.long) in rw (e, get_or-set_same lanes at x 0 lt) small
    fits i (inr n) = rw (get_or-set_other lanes at i x 0 n) (is.fit i)

pub AreLanes-put_in : (lanes : List ℕ) (w : ℕ) → w < 4096 → AreLanes lanes → AreLanes (put_in lanes w)
AreLanes-put_in lanes w h is =
    AreLanes-set lanes (w / 64) (bit_or (get_or lanes (w / 64) 0) (1 * 2 ^ (w % 64) % 2 ^ 64)) (omega arith) (or_lt 64 _ _ (is.fit (w / 64)) (omega arith)) is

pub words-put_in : (lanes : List ℕ) (w : ℕ) → w < 4096 → length lanes ≡ 64 → (v : ℕ) → v < 4096 → words (put_in lanes w) v ≡ with_word w (words lanes) v
words-put_in lanes w g long v h = words_bit (put_in lanes w) v h ∙ elim (cases_eq (v / 64) (w / 64)) [
  | inl e ↦ elim (cases_eq (v % 64) (w % 64)) [
    | inl d ↦
        (let t : (v == w) ≡ true = eq-eqb v w (omega arith) in
        ap (λ x. bit_at x (v % 64) == 1) (here e) ∙ ap (λ k. bit_at (bit_or (get_or lanes (w / 64) 0) (1 * 2 ^ (w % 64) % 2 ^ 64)) k == 1) d
        ∙ ap (λ x. x == 1) (bit_at_set_same w64 (get_or lanes (w / 64) 0) (w % 64) (omega arith)) ∙ sym (ap (λ q. words lanes v || q) t ∙ or_true (words lanes v)))
    | inr n ↦
        (let t : (v == w) ≡ false = ne_eqb v w (λ q. n (ap (λ x. x % 64) q)) in
        ap (λ x. bit_at x (v % 64) == 1) (here e)
        ∙ ap (λ x. x == 1) (bit_at_set_other w64 (get_or lanes (w / 64) 0) (w % 64) (omega arith) (v % 64) n)
        ∙ ap (λ i. bit_at (get_or lanes i 0) (v % 64) == 1) (sym e) ∙ sym (words_bit lanes v h)
        ∙ sym (ap (λ q. words lanes v || q) t ∙ or_false (words lanes v)))
  ]
  | inr n ↦
      (let t : (v == w) ≡ false = ne_eqb v w (λ q. n (ap (λ x. x / 64) q)) in
      ap (λ x. bit_at x (v % 64) == 1) (get_or-set_other lanes (w / 64) (v / 64) (bit_or (get_or lanes (w / 64) 0) (1 * 2 ^ (w % 64) % 2 ^ 64)) 0 n) ∙ sym (words_bit lanes v h)
      ∙ sym (ap (λ q. words lanes v || q) t ∙ or_false (words lanes v)))
]
  where
    here : v / 64 ≡ w / 64 → get_or (put_in lanes w) (v / 64) 0 ≡ bit_or (get_or lanes (w / 64) 0) (1 * 2 ^ (w % 64) % 2 ^ 64)
    here e = ap (λ i. get_or (put_in lanes w) i 0) e ∙ get_or-set_same lanes (w / 64) (bit_or (get_or lanes (w / 64) 0) (1 * 2 ^ (w % 64) % 2 ^ 64)) 0 (omega arith)

-- ---- the sets themselves

pub empty_is : words (replicate 64 0) ≡ nothing
empty_is = words_are (replicate 64 0) nothing (λ v g. refl) words-none

pub all_is : words (replicate 64 (2 ^ 64 - 1)) ≡ all_words
all_is = words_are (replicate 64 (2 ^ 64 - 1)) all_words all_past (λ v h. words-all v h ∙ sym (lt_to v h))

pub union_is : (a b : List ℕ) → length a ≡ 64 → length b ≡ 64 → words (zip2 bit_or a b) ≡ union (words a) (words b)
union_is a b la lb = words_are (zip2 bit_or a b) (union (words a) (words b)) (λ v g. rw (words_past a v g, words_past b v g) refl) (words-or a b la lb)

pub meet_is : (a b : List ℕ) → length a ≡ 64 → length b ≡ 64 → words (zip2 bit_and a b) ≡ meet (words a) (words b)
meet_is a b la lb = words_are (zip2 bit_and a b) (meet (words a) (words b)) (λ v g. rw (words_past a v g) refl) (words-and a b la lb)

pub minus_is : (a b : List ℕ) → AreLanes a → AreLanes b → words (zip2 bit_and a (map (bit_not w64) b)) ≡ difference (words a) (words b)
minus_is a b aa bb = words_are (zip2 bit_and a (map (bit_not w64) b)) (difference (words a) (words b)) (λ v g. rw (words_past a v g) refl) (words-minus a b aa bb)

pub insert_is : (lanes : List ℕ) (w : ℕ) → w < 4096 → length lanes ≡ 64 → words (put_in lanes w) ≡ with_word w (words lanes)
insert_is lanes w h long = words_are (put_in lanes w) (with_word w (words lanes))
    (λ v g. let other : (v == w) ≡ false = ne_eqb v w (λ e. omega arith) in rw (words_past lanes v g, other) refl)
    (words-put_in lanes w h long)

-- ---- all lanes are 0

zero_or : (a b : ℕ) → bit_or a b ≡ 0 → (a ≡ 0) × (b ≡ 0)
zero_or a b e = (omega (arith, or_add_and a b, and_le_r a b), omega (arith, or_add_and a b, and_le_l a b))

pub or-none : (xs : List ℕ) (a : ℕ) → fold_l bit_or a xs ≡ 0 → (a ≡ 0) × ((i : ℕ) → get_or xs i 0 ≡ 0)
or-none [] a e = (e, λ i. refl)
or-none (x ∷ xs) a e =
    let ih : (bit_or a x ≡ 0) × ((i : ℕ) → get_or xs i 0 ≡ 0) = or-none xs (bit_or a x) e in
    let both : (a ≡ 0) × (x ≡ 0) = zero_or a x ih.0 in
    (both.0, λ i. cases both.1 ih.1 i)
  where
    cases : x ≡ 0 → ((i : ℕ) → get_or xs i 0 ≡ 0) → (i : ℕ) → get_or (x ∷ xs) i 0 ≡ 0
    cases p q zero = p
    cases p q (suc i) = q i

pub or-none_of : (xs : List ℕ) → ((i : ℕ) → i < length xs → get_or xs i 0 ≡ 0) → fold_l bit_or 0 xs ≡ 0
or-none_of [] q = refl
or-none_of (x ∷ xs) q =
    let z : x ≡ 0 = q 0 (omega arith) in
    let b : bit_or 0 x ≡ 0 = or_zero_l x ∙ z in
    rw b (or-none_of xs (λ i h. q (suc i) (omega arith)))

-- a number below 2 ^ 64 none of whose bits is set
pub zero_of_bits : (n : ℕ) → n < 2 ^ 64 → ((j : ℕ) → j < 64 → (bit_at n j == 1) ≡ false) → n ≡ 0
zero_of_bits n h q = same_from_bits_below 64 n 0 h (lit< tt) (λ j g. clear j (cases_eq (bit_at n j) 1) (q j g) ∙ sym (bit_at-zero j))
  where
    clear : (j : ℕ) → (bit_at n j ≡ 1) ⊎ (bit_at n j ≢ 1) → (bit_at n j == 1) ≡ false → bit_at n j ≡ 0
    clear j (inl e) f = absurd (two (sym (eq-eqb (bit_at n j) 1 e) ∙ f))
      where
        two : true ≡ false → ⊥
        two t = cc
    clear j (inr m) f = omega (arith, bit_at-lt n j)

-- from a test of two numbers
from_test : (n : ℕ) → IsTrue (n == 0) → n ≡ 0
from_test n t = elim (cases_eq n 0) [ inl e ↦ e | inr m ↦ absurd (two (sym (ne_eqb n 0 m) ∙ t)) ]
  where
    two : false ≡ true → ⊥
    two f = cc

none_within : (p q : Bool) → (p && not q) ≡ false → p ≡ true → q ≡ true
none_within true true e t = refl
none_within true false e t = cc
none_within false q e t = cc

within_none : (p q : Bool) → (p ≡ true → q ≡ true) → (p && not q) ≡ false
within_none true true f = refl
within_none true false f = absurd (two (f refl))
  where
    two : false ≡ true → ⊥
    two t = cc
within_none false q f = refl

pub IsWithin-lanes : (a b : List ℕ) → AreLanes a → AreLanes b → IsTrue (fold_l bit_or 0 (zip2 bit_and a (map (bit_not w64) b)) == 0) ↔ IsWithin (words a) (words b)
IsWithin-lanes a b aa bb = (
  (λ t v h. none_within (words a v) (words b v) (sym (words-minus a b aa bb v h) ∙ gone t v h)),
  (λ f. eq-eqb _ 0 (or-none_of z (λ i lt. zero_of_bits (get_or z i 0) (fit i) (λ j g.
      let v : ℕ = 64 * i + j in
      let small : v < 4096 = omega (arith, long) in
      let same : words z v ≡ (bit_at (get_or z i 0) j == 1) = words_at z i j (omega (arith, long)) g in
      sym same ∙ words-minus a b aa bb v small ∙ within_none (words a v) (words b v) (f v small))))),
)
  where
    nb : List ℕ
    nb = map (bit_not w64) b

    z : List ℕ
    z = zip2 bit_and a nb

    long : length z ≡ 64
    long = length-zip2 bit_and a nb (aa.long ∙ sym (length-map b (bit_not w64) ∙ bb.long)) ∙ aa.long

    gone : IsTrue (fold_l bit_or 0 z == 0) → (v : ℕ) → v < 4096 → words z v ≡ false
    gone t v h = let e : get_or z (v / 64) 0 ≡ 0 = (or-none z 0 (from_test (fold_l bit_or 0 z) t)).1 (v / 64) in
        words_bit z v h ∙ ap (λ x. bit_at x (v % 64) == 1) e ∙ ap (λ x. x == 1) (bit_at-zero (v % 64))

    fit : (i : ℕ) → get_or z i 0 < 2 ^ 64
    fit i = elim (cases_lt i 64) [
      | inl l ↦
          (let e : get_or z i 0 ≡ bit_and (get_or a i 0) (get_or nb i 0) = get_or-zip2 bit_and a nb i 0 0 0 (omega (arith, aa.long)) (omega (arith, length-map b (bit_not w64), bb.long)) in
          omega (arith, aa.fit i, and_le_l (get_or a i 0) (get_or nb i 0)))
      | inr g ↦ (let e : get_or z i 0 ≡ 0 = get_or_past z i 0 (omega (arith, long)) in omega arith)
    ]

-- ---- no word at all

pub none-lanes : (lanes : List ℕ) → AreLanes lanes → (fold_l bit_or 0 lanes == 0) ≡ not (has_some (words lanes))
none-lanes lanes is = both_ways (fold_l bit_or 0 lanes == 0) (not (has_some (words lanes)))
    (λ t. ap not (some_none_of 4096 (words lanes) (λ v h. gone t v h)))
    (λ t. eq-eqb _ 0 (or-none_of lanes (λ i lt. zero_of_bits (get_or lanes i 0) (is.fit i) (λ j g.
    sym (words_at lanes i j (omega (arith, is.long)) g) ∙ none_of_some 4096 (words lanes) (not_true (has_some (words lanes)) t) (64 * i + j) (omega (arith, is.long))))))
  where
    gone : (fold_l bit_or 0 lanes == 0) ≡ true → (v : ℕ) → v < 4096 → words lanes v ≡ false
    gone t v h = let e : get_or lanes (v / 64) 0 ≡ 0 = (or-none lanes 0 (eqb-true _ _ t)).1 (v / 64) in
        words_bit lanes v h ∙ ap (λ x. bit_at x (v % 64) == 1) e ∙ ap (λ x. x == 1) (bit_at-zero (v % 64))

    not_true : (p : Bool) → not p ≡ true → p ≡ false
    not_true true e = cc
    not_true false e = refl

-- ---- a word left out

pub difference-one : (a : Words) (w : ℕ) → difference a (one w) ≡ without w a
difference-one a w = fun_ext (λ v. go (a v) (v == w))
  where
    go : (p q : Bool) → (p && not q) ≡ (if q then false else p)
    go true true = refl
    go true false = refl
    go false true = refl
    go false false = refl
