-- The least word from a number on, the least of all, and the only one.
use Rattle.std.proofs.Common.{◌≡◌, ◌≢◌, ℕ, zero, suc, ◌+◌, ◌-◌, ◌*◌, ◌/◌, ◌%◌, ◌^◌, ◌<◌, ◌≤◌, ◌==◌, Bool, true, false, List, get_or, refl, sym, ◌∙◌, ap, inl, inr, arith, w64}
use Rattle.std.specs.Prelude.{if◌then◌else◌, Option, Some, None, MatchOption}
use Rattle.std.specs.Int.{bit_at, trailing_zeros}
use Rattle.std.proofs.lemmas.Bool.{cases_eq, cases_lt, eq-eqb, ne_eqb}
use Rattle.std.proofs.lemmas.Nat.Bits.{bit_at-trailing_zeros, bit_at-zero, bit_at_above}
use Rattle.std.proofs.Math.Nat.{div-le_self}
use Rattle.wordset.specs.Words.{Words, IsWithin, one, some_below, first_below, only, only_of, without, IsFirstFrom, HasNoneFrom}
use Rattle.wordset.specs.Lanes.{words, AreLanes}
use Rattle.wordset.proofs.SetLemmas.{words_past}
use Rattle.wordset.proofs.LaneBits.{words_at}
use Rattle.wordset.proofs.Tests.{true_false, some_from, some_none_of, none_of_some}
use Rattle.wordset.proofs.Shifts.{bit_div}

-- ---- lane by lane

-- the words from a number on, below 64 * i + n
in_lane : (lanes : List ℕ) (from i n v : ℕ) → n ≤ 64 → ((u : ℕ) → from ≤ u → u < 64 * i → words lanes u ≡ false) → ((j : ℕ) → j < n → bit_at (get_or lanes i 0) j ≡ 0) → from ≤ v → v < 64 * i + n → words lanes v ≡ false
in_lane lanes from i n v small before bits f h = elim (cases_lt v (64 * i)) [
  | inl l ↦ before v f l
  | inr g ↦ elim (cases_lt v 4096) [
    | inr past ↦ words_past lanes v past
    | inl low ↦
        (let e : 64 * i + (v - 64 * i) ≡ v = omega arith in
        let lt : v - 64 * i < 64 = omega arith in
        let inside : i < 64 = omega arith in
        ap (λ u. words lanes u) (sym e) ∙ words_at lanes i (v - 64 * i) inside lt ∙ ap (λ b. b == 1) (bits (v - 64 * i) (omega arith)))
  ]
]

pub none_more : (lanes : List ℕ) (from i : ℕ) → ((v : ℕ) → from ≤ v → v < 64 * i → words lanes v ≡ false) → get_or lanes i 0 ≡ 0 → (v : ℕ) → from ≤ v → v < 64 * (i + 1) → words lanes v ≡ false
none_more lanes from i before z v f h = in_lane lanes from i 64 v (omega arith) before (λ j lt. ap (λ n. bit_at n j) z ∙ bit_at-zero j) f (omega arith)

pub first_in_lane : (lanes : List ℕ) (from i : ℕ) → AreLanes lanes → i < 64 → from ≤ 64 * i → ((v : ℕ) → from ≤ v → v < 64 * i → words lanes v ≡ false) → get_or lanes i 0 ≢ 0
    → IsFirstFrom from (words lanes) (64 * i + trailing_zeros w64 (get_or lanes i 0))
first_in_lane lanes from i is h low before some =
    let positive : 0 < get_or lanes i 0 = omega arith in
    let zeros : (trailing_zeros w64 (get_or lanes i 0) < 64) × (bit_at (get_or lanes i 0) (trailing_zeros w64 (get_or lanes i 0)) ≡ 1) × ((j : ℕ) → j < trailing_zeros w64 (get_or lanes i 0) → bit_at (get_or lanes i 0) j ≡ 0) =
    bit_at-trailing_zeros w64 (get_or lanes i 0) positive (is.fit i) in
    let small : trailing_zeros w64 (get_or lanes i 0) < 64 = zeros.0 in
    record {
      small = omega arith;
      reached = omega arith;
      within = words_at lanes i (trailing_zeros w64 (get_or lanes i 0)) h small ∙ ap (λ b. b == 1) zeros.1;
      before = λ v f lt. in_lane lanes from i (trailing_zeros w64 (get_or lanes i 0)) v (omega arith) before zeros.2 f lt;
    }

-- ---- from the midst of a lane

-- the rest of a lane from a word on
abbrev pub rest_from : List ℕ → ℕ → ℕ
rest_from lanes from = get_or lanes (from / 64) 0 / 2 ^ (from % 64)

rest_bit : (lanes : List ℕ) (from d : ℕ) → from < 4096 → from % 64 + d < 64 → words lanes (from + d) ≡ (bit_at (rest_from lanes from) d == 1)
rest_bit lanes from d low h =
    let at : 64 * (from / 64) + (from % 64 + d) ≡ from + d = omega arith in
    ap (λ v. words lanes v) (sym at) ∙ words_at lanes (from / 64) (from % 64 + d) (omega arith) h ∙ ap (λ b. b == 1) (sym (bit_div (get_or lanes (from / 64) 0) (from % 64) d))

pub none_in_rest : (lanes : List ℕ) (from : ℕ) → rest_from lanes from ≡ 0 → (v : ℕ) → from ≤ v → v < 64 * (from / 64 + 1) → words lanes v ≡ false
none_in_rest lanes from z v f h = elim (cases_lt from 4096) [
  | inr past ↦ words_past lanes v (omega arith)
  | inl low ↦
      (let at : from + (v - from) ≡ v = omega arith in
      ap (λ u. words lanes u) (sym at) ∙ rest_bit lanes from (v - from) low (omega arith) ∙ ap (λ n. bit_at n (v - from) == 1) z ∙ ap (λ b. b == 1) (bit_at-zero (v - from)))
]

pub rest_small : (lanes : List ℕ) (from : ℕ) → AreLanes lanes → rest_from lanes from < 2 ^ 64
rest_small lanes from is = omega (arith, is.fit (from / 64), le (get_or lanes (from / 64) 0) (2 ^ (from % 64)))
  where
    le : (n k : ℕ) → n / k ≤ n
    le n k = div-le_self n k

pub first_in_rest : (lanes : List ℕ) (from : ℕ) → AreLanes lanes → from < 4096 → rest_from lanes from ≢ 0
    → IsFirstFrom from (words lanes) (from + trailing_zeros w64 (rest_from lanes from))
first_in_rest lanes from is h some =
    let positive : 0 < rest_from lanes from = omega arith in
    let zeros : (trailing_zeros w64 (rest_from lanes from) < 64) × (bit_at (rest_from lanes from) (trailing_zeros w64 (rest_from lanes from)) ≡ 1) × ((j : ℕ) → j < trailing_zeros w64 (rest_from lanes from) → bit_at (rest_from lanes from) j ≡ 0) =
    bit_at-trailing_zeros w64 (rest_from lanes from) positive (rest_small lanes from is) in
    let inside : from % 64 + trailing_zeros w64 (rest_from lanes from) < 64 = fits (trailing_zeros w64 (rest_from lanes from)) zeros.1 in
    record {
      small = omega arith;
      reached = omega arith;
      within = rest_bit lanes from (trailing_zeros w64 (rest_from lanes from)) h inside ∙ ap (λ b. b == 1) zeros.1;
      before = λ v f lt.
          (let at : from + (v - from) ≡ v = omega arith in
          ap (λ u. words lanes u) (sym at) ∙ rest_bit lanes from (v - from) h (omega arith) ∙ ap (λ b. b == 1) (zeros.2 (v - from) (omega arith)));
    }
  where
    fits : (d : ℕ) → bit_at (rest_from lanes from) d ≡ 1 → from % 64 + d < 64
    fits d e = elim (cases_lt (from % 64 + d) 64) [
      | inl l ↦ l
      | inr g ↦
          (let one : bit_at (get_or lanes (from / 64) 0) (from % 64 + d) ≡ 1 = sym (bit_div (get_or lanes (from / 64) 0) (from % 64) d) ∙ e in
          let none : bit_at (get_or lanes (from / 64) 0) (from % 64 + d) ≡ 0 = bit_at_above (get_or lanes (from / 64) 0) 64 (from % 64 + d) (is.fit (from / 64)) g in
          absurd (omega arith))
    ]

-- the answer from a later number is the answer, where there is no word between
pub first_later : (o : Option ℕ) (a : Words) (from later : ℕ) → from ≤ later → ((v : ℕ) → from ≤ v → v < later → a v ≡ false)
    → MatchOption o (HasNoneFrom later a) (λ w. IsFirstFrom later a w) → MatchOption o (HasNoneFrom from a) (λ w. IsFirstFrom from a w)
first_later None a from later le between none = λ v f h. elim (cases_lt v later) [ inl l ↦ between v f l | inr g ↦ none v g h ]
first_later (Some w) a from later le between is = record {
  small = is.small;
  reached = omega (arith, is.reached);
  within = is.within;
  before = λ v f h. elim (cases_lt v later) [ inl l ↦ between v f l | inr g ↦ is.before v g h ];
}

-- ---- the least of all

first-some : (n : ℕ) (a : Words) (w : ℕ) → w < n → a w ≡ true → ((v : ℕ) → v < w → a v ≡ false) → first_below n a ≡ Some w
unfolding first_below
first-some zero a w h e before = absurd (omega arith)
first-some (suc n) a w h e before = elim (cases_eq w n) [
  | inl q ↦
      (let here : a n ≡ true = ap a (sym q) ∙ e in
      let none : some_below n a ≡ false = some_none_of n a (λ v l. before v (omega arith)) in
      rw (none, here) (ap Some (sym q)))
  | inr m ↦ (let some : some_below n a ≡ true = some_from n a w (omega arith) e in rw some (first-some n a w (omega arith) e before))
]

first-none : (n : ℕ) (a : Words) → ((v : ℕ) → v < n → a v ≡ false) → first_below n a ≡ None
unfolding first_below
first-none zero a none = refl
first-none (suc n) a none =
    let here : a n ≡ false = none n (omega arith) in
    let rest : some_below n a ≡ false = some_none_of n a (λ v l. none v (omega arith)) in
    rw (rest, here) refl

pub first_is : (o : Option ℕ) (a : Words) → MatchOption o (HasNoneFrom 0 a) (λ w. IsFirstFrom 0 a w) → o ≡ first_below 4096 a
first_is None a none = sym (first-none 4096 a (λ v h. none v (omega arith) h))
first_is (Some w) a is = sym (first-some 4096 a w is.small is.within (λ v h. is.before v (omega arith) h))

-- ---- one word and no other

-- the least of all is some number or none
least_of : (n : ℕ) (a : Words) → n ≤ 4096 → MatchOption (first_below n a) ((v : ℕ) → v < n → a v ≡ false) (λ w. IsFirstFrom 0 a w)
unfolding first_below
least_of zero a le = λ v h. absurd (omega arith)
least_of (suc n) a le = go (some_below n a) (a n) refl refl (least_of n a (omega arith))
  where
    go : (p q : Bool) → some_below n a ≡ p → a n ≡ q → MatchOption (first_below n a) ((v : ℕ) → v < n → a v ≡ false) (λ w. IsFirstFrom 0 a w)
        → MatchOption (if p then first_below n a else (if q then Some n else None)) ((v : ℕ) → v < suc n → a v ≡ false) (λ w. IsFirstFrom 0 a w)
    go true q some here rest = later (first_below n a) rest
      where
        later : (o : Option ℕ) → MatchOption o ((v : ℕ) → v < n → a v ≡ false) (λ w. IsFirstFrom 0 a w) → MatchOption o ((v : ℕ) → v < suc n → a v ≡ false) (λ w. IsFirstFrom 0 a w)
        later None none = absurd (true_false (sym some ∙ some_none_of n a none))
        later (Some w) is = is
    go false true none here rest = record { small = omega arith; reached = omega arith; within = here; before = λ v f h. none_of_some n a none v h }
    go false false none here rest = λ v h. elim (cases_eq v n) [ inl q ↦ ap a q ∙ here | inr m ↦ none_of_some n a none v (omega arith) ]

from_zero : (o : Option ℕ) (a : Words) → MatchOption o ((v : ℕ) → v < 4096 → a v ≡ false) (λ w. IsFirstFrom 0 a w) → MatchOption o (HasNoneFrom 0 a) (λ w. IsFirstFrom 0 a w)
from_zero None a none = λ v f h. none v h
from_zero (Some w) a is = is

-- a set has a least number, or none
pub first_of : (a : Words) → MatchOption (first_below 4096 a) (HasNoneFrom 0 a) (λ w. IsFirstFrom 0 a w)
first_of a = from_zero (first_below 4096 a) a (least_of 4096 a (omega arith))

-- the least word is the only one where none comes after it
pub only_next : (a : Words) (w : ℕ) → IsFirstFrom 0 a w → HasNoneFrom (w + 1) a → Some w ≡ only a
unfolding only
only_next a w is none =
    let first : Some w ≡ first_below 4096 a = first_is (Some w) a is in
    let alone : some_below 4096 (without w a) ≡ false = some_none_of 4096 (without w a) (λ v h. lone v h (v == w) refl) in
    rw (← first, alone) refl
  where
    lone : (v : ℕ) → v < 4096 → (q : Bool) → (v == w) ≡ q → without w a v ≡ false
    lone v h true e = rw e refl
    lone v h false e = rw e (elim (cases_lt v w) [ inl l ↦ is.before v (omega arith) l | inr g ↦ none v (later v e g) h ])
      where
        later : (v : ℕ) → (v == w) ≡ false → w ≤ v → w + 1 ≤ v
        later v e g = let other : v ≢ w = λ same. true_false (sym (eq-eqb v w same) ∙ e) in omega arith

pub only_two : (a : Words) (w u : ℕ) → IsFirstFrom 0 a w → IsFirstFrom (w + 1) a u → None ≡ only a
unfolding only
only_two a w u is next =
    let first : Some w ≡ first_below 4096 a = first_is (Some w) a is in
    let apart : (u == w) ≡ false = ne_eqb u w (λ e. omega (arith, next.reached)) in
    let left : without w a u ≡ true = rw apart next.within in
    let beside : some_below 4096 (without w a) ≡ true = some_from 4096 (without w a) u next.small left in
    rw (← first, beside) refl

-- the least word is the only one where all words of the set are that word
pub only_alone : (a : Words) (w : ℕ) → IsFirstFrom 0 a w → IsWithin a (one w) → Some w ≡ only a
only_alone a w is within = only_next a w is (λ v f h. lone v f h (a v) refl)
  where
    lone : (v : ℕ) → w + 1 ≤ v → v < 4096 → (q : Bool) → a v ≡ q → a v ≡ false
    lone v f h false e = e
    lone v f h true e = let apart : (v == w) ≡ false = ne_eqb v w (λ same. omega (arith, same)) in absurd (true_false (sym (within v h e) ∙ apart))

pub only_beside : (a : Words) (w : ℕ) → IsFirstFrom 0 a w → (IsWithin a (one w) → ⊥) → None ≡ only a
unfolding only
only_beside a w is beyond = go (some_below 4096 (without w a)) refl
  where
    first : Some w ≡ first_below 4096 a
    first = first_is (Some w) a is

    within : some_below 4096 (without w a) ≡ false → IsWithin a (one w)
    within none v h t = elim (cases_eq v w) [
      | inl same ↦ eq-eqb v w same
      | inr apart ↦ (let out : (v == w) ≡ false = ne_eqb v w apart in let left : without w a v ≡ true = rw out t in absurd (true_false (sym left ∙ none_of_some 4096 (without w a) none v h)))
    ]

    go : (b : Bool) → some_below 4096 (without w a) ≡ b → None ≡ only_of a (first_below 4096 a)
    go true beside = rw (← first, beside) refl
    go false none = absurd (beyond (within none))

pub only_nothing : (a : Words) → HasNoneFrom 0 a → None ≡ only a
unfolding only
only_nothing a none = let first : None ≡ first_below 4096 a = first_is None a none in rw (← first) refl

-- the only word of a set
pub record IsOnly (a : Words) (w : ℕ) : Type 0 where
  pub small : w < 4096
  pub within : a w ≡ true
  pub lone : (v : ℕ) → v < 4096 → a v ≡ true → v ≡ w

pub only_word : (a : Words) (w : ℕ) → only a ≡ Some w → IsOnly a w
unfolding only
only_word a w e = go (first_below 4096 a) refl (from_zero (first_below 4096 a) a (least_of 4096 a (omega arith)))
  where
    go : (o : Option ℕ) → first_below 4096 a ≡ o → MatchOption o (HasNoneFrom 0 a) (λ k. IsFirstFrom 0 a k) → IsOnly a w
    go None f none = let same : only_of a None ≡ Some w = ap (only_of a) (sym f) ∙ e in cc
    go (Some k) f is = beside (some_below 4096 (without k a)) refl
      where
        some_out : (i j : ℕ) → Some i ≡ Some j → i ≡ j
        some_out i j s = cc

        alone_at : (v : ℕ) → v < 4096 → a v ≡ true → some_below 4096 (without k a) ≡ false → k ≡ w → v ≡ w
        alone_at v h t q it = elim (cases_eq v k) [
          | inl same ↦ same ∙ it
          | inr apart ↦ (let out : (v == k) ≡ false = ne_eqb v k apart in let left : without k a v ≡ true = rw out t in absurd (true_false (sym left ∙ none_of_some 4096 (without k a) q v h)))
        ]

        beside : (p : Bool) → some_below 4096 (without k a) ≡ p → IsOnly a w
        beside true q = let same : only_of a (Some k) ≡ Some w = ap (only_of a) (sym f) ∙ e in let none : None ≡ Some w = rw q at same in cc
        beside false q =
            let same : only_of a (Some k) ≡ Some w = ap (only_of a) (sym f) ∙ e in
            let there : Some k ≡ Some w = rw q at same in
            let it : k ≡ w = some_out k w there in
            record {
              small = rw (← it) is.small;
              within = rw (← it) is.within;
              lone = λ v h t. alone_at v h t q it;
            }
