-- Offsets as the bits of a number.
use Rattle.std.proofs.Common.{◌≡◌, ◌≢◌, ℕ, zero, suc, ◌+◌, ◌-◌, ◌*◌, ◌/◌, ◌%◌, ◌^◌, ◌<◌, ◌≤◌, ◌==◌, Bool, true, false, not, ◌&&◌, ◌||◌, refl, sym, ap, ◌∙◌, arith, inl, inr, w64}
use Rattle.std.specs.Prelude.{nat_lt, bit_and, bit_or, if◌then◌else◌}
use Rattle.std.specs.Int.{bit_at, bit_not}
use Rattle.std.proofs.Math.Path.{fun_ext}
use Rattle.std.proofs.lemmas.Bool.{cases_eq, cases_lt, eq-eqb, ne_eqb, lt-ltb, le-ltb}
use Rattle.std.proofs.lemmas.Bool.Decides.{nat_tests}
use Rattle.std.proofs.lemmas.Nat.Bits.{bit_at-zero, bit_at_ones, bit_at_set_same, bit_at_set_other, shr_and_one, bit_at-lt, same_from_bits_below, bit_at-suc, bit_at_lowest, bit_at_cat_low}
use Rattle.wordset.specs.Words.{Words, nothing, with_word, shifted, meet, has_some}
use Rattle.wordset.proofs.LaneBits.{and_bit, not_bit, or_false}
use Rattle.domain.specs.Moves.{counted_up}
use Rattle.domain.specs.Offsets.{every_offset}

-- The offsets of a number's bits.
abbrev pub of_bits : ℕ → Words
of_bits n o = nat_lt o 64 && (bit_at n o == 1)

lt_is : (o : ℕ) → o < 64 → nat_lt o 64 ≡ true
lt_is o h = grind (arith, nat_tests)

ge_is : (o : ℕ) → 64 ≤ o → nat_lt o 64 ≡ false
ge_is o h = grind (arith, nat_tests)

and_nothing : (b : Bool) → (b && false) ≡ false
and_nothing true = refl
and_nothing false = refl

and_all : (b : Bool) → (b && true) ≡ b
and_all true = refl
and_all false = refl

-- A test of an offset is that of its bit.
pub bit_of : (n o : ℕ) → o < 64 → of_bits n o ≡ (bit_at n o == 1)
bit_of n o h = ap (λ (b : Bool). b && (bit_at n o == 1)) (lt_is o h)

pub none_past : (n o : ℕ) → 64 ≤ o → of_bits n o ≡ false
none_past n o h = ap (λ (b : Bool). b && (bit_at n o == 1)) (ge_is o h)

pub none_in : of_bits 0 ≡ nothing
none_in = fun_ext (λ o. ap (λ (b : ℕ). nat_lt o 64 && (b == 1)) (bit_at-zero o) ∙ and_nothing (nat_lt o 64))

pub all_in : of_bits (2 ^ 64 - 1) ≡ every_offset
all_in = fun_ext (λ o. elim (cases_lt o 64) [
  | inl l ↦ ap (λ (b : ℕ). nat_lt o 64 && (b == 1)) (bit_at_ones 64 o l) ∙ and_all (nat_lt o 64)
  | inr g ↦ none_past (2 ^ 64 - 1) o g ∙ sym (ge_is o g)
])

pub has_bit : (n o : ℕ) → o < 64 → (bit_and (n / 2 ^ o) 1 == 1) ≡ of_bits n o
has_bit n o h = ap (λ (b : ℕ). b == 1) (shr_and_one n o) ∙ sym (bit_of n o h)

or_true : (p : Bool) → (p || true) ≡ true
or_true true = refl
or_true false = refl

pub put_in : (n k : ℕ) → k < 64 → of_bits (bit_or n (1 * 2 ^ k % 2 ^ 64)) ≡ with_word k (of_bits n)
put_in n k h = fun_ext at
  where
    at : (o : ℕ) → of_bits (bit_or n (1 * 2 ^ k % 2 ^ 64)) o ≡ with_word k (of_bits n) o
    at o = elim (cases_eq o k) [
      | inl e ↦ bit_of (bit_or n (1 * 2 ^ k % 2 ^ 64)) o (omega arith) ∙ ap (λ i. bit_at (bit_or n (1 * 2 ^ k % 2 ^ 64)) i == 1) e ∙ ap (λ b. b == 1) (bit_at_set_same w64 n k h)
          ∙ sym (ap (λ b. of_bits n o || b) (eq-eqb o k e) ∙ or_true (of_bits n o))
      | inr d ↦ ap (λ b. nat_lt o 64 && (b == 1)) (bit_at_set_other w64 n k h o d) ∙ sym (ap (λ b. of_bits n o || b) (ne_eqb o k d) ∙ or_false (of_bits n o))
    ]

-- A number has no bit below 64 where it is 0, and only there.
pub no_bit : (n : ℕ) → n < 2 ^ 64 → ((o : ℕ) → o < 64 → of_bits n o ≡ false) → n ≡ 0
no_bit n h none = same_from_bits_below 64 n 0 h (omega arith) (λ o lt. zero_bit o lt ∙ sym (bit_at-zero o))
  where
    zero_bit : (o : ℕ) → o < 64 → bit_at n o ≡ 0
    zero_bit o lt = elim (cases_eq (bit_at n o) 1) [
      | inl e ↦ (let clash : true ≡ false = sym (eq-eqb (bit_at n o) 1 e) ∙ sym (bit_of n o lt) ∙ none o lt in let z : ⊥ = cc in absurd z)
      | inr d ↦ omega (arith, bit_at-lt n o)
    ]

pub empty_none : (n : ℕ) → n ≡ 0 → (o : ℕ) → o < 64 → of_bits n o ≡ false
empty_none n e o h = ap (λ m. of_bits m o) e ∙ ap (λ (f : Words). f o) none_in

apart : (a b : Bool) → (a && not b) ≡ false → a ≡ true → b ≡ true
apart true true e t = refl
apart true false e t = sym e
apart false b e t = absurd (let z : ⊥ = cc in z)

together : (a b : Bool) → (a ≡ true → b ≡ true) → (a && not b) ≡ false
together true b f = ap not (f refl)
together false b f = refl

left_bit : (a b o : ℕ) → b < 2 ^ 64 → o < 64 → of_bits (bit_and a (bit_not w64 b)) o ≡ (of_bits a o && not (of_bits b o))
left_bit a b o s h =
    bit_of (bit_and a (bit_not w64 b)) o h ∙ and_bit a (bit_not w64 b) o ∙ ap (λ p. (bit_at a o == 1) && p) (not_bit b o s h)
    ∙ sym (ap (λ p. p && not (of_bits b o)) (bit_of a o h) ∙ ap (λ p. (bit_at a o == 1) && not p) (bit_of b o h))

pub within_when : (a b : ℕ) → b < 2 ^ 64 → bit_and a (bit_not w64 b) ≡ 0 → (o : ℕ) → o < 64 → of_bits a o ≡ true → of_bits b o ≡ true
within_when a b s e o h t = apart (of_bits a o) (of_bits b o) (sym (left_bit a b o s h) ∙ empty_none (bit_and a (bit_not w64 b)) e o h) t

pub when_within : (a b : ℕ) → b < 2 ^ 64 → bit_and a (bit_not w64 b) < 2 ^ 64 → ((o : ℕ) → o < 64 → of_bits a o ≡ true → of_bits b o ≡ true) → bit_and a (bit_not w64 b) ≡ 0
when_within a b s fits each = no_bit (bit_and a (bit_not w64 b)) fits (λ o h. left_bit a b o s h ∙ together (of_bits a o) (of_bits b o) (each o h))

doubled_bit : (n k : ℕ) → k < 63 → bit_at (n * 2 ^ 1 % 2 ^ 64) (suc k) ≡ bit_at n k
doubled_bit n k h =
    let r : ℕ = n % 2 ^ 63 in
    let half : (n * 2 ^ 1 % 2 ^ 64) / 2 ≡ n % 2 ^ 63 = omega arith in
    let parts : n / 2 ^ 63 * 2 ^ 63 + n % 2 ^ 63 ≡ n = omega arith in
    bit_at-suc (n * 2 ^ 1 % 2 ^ 64) k ∙ ap (λ m. bit_at m k) half ∙ sym (bit_at_cat_low (n / 2 ^ 63) 63 (n % 2 ^ 63) k h) ∙ ap (λ m. bit_at m k) parts

pub moved_up : (n : ℕ) → of_bits (n * 2 ^ 1 % 2 ^ 64) ≡ counted_up (of_bits n)
moved_up n = fun_ext at
  where
    at : (o : ℕ) → of_bits (n * 2 ^ 1 % 2 ^ 64) o ≡ counted_up (of_bits n) o
    at zero = ap (λ b. nat_lt 0 64 && (b == 1)) (bit_at_lowest (n * 2 ^ 1 % 2 ^ 64) ∙ (let e : n * 2 ^ 1 % 2 ^ 64 % 2 ≡ 0 = omega arith in e)) ∙ and_nothing (nat_lt 0 64)
    at (suc k) = elim (cases_lt k 63) [
      | inl l ↦
          (let small : suc k < 64 = omega arith in
          let lower : k < 64 = omega arith in
          let less : suc k - 1 ≡ k = omega arith in
          let not_zero : (suc k == 0) ≡ false = ne_eqb (suc k) 0 (λ e. omega (arith, e)) in
          bit_of (n * 2 ^ 1 % 2 ^ 64) (suc k) small ∙ ap (λ b. b == 1) (doubled_bit n k l)
          ∙ sym (ap (λ b. b && (if suc k == 0 then false else of_bits n (suc k - 1))) (lt_is (suc k) small) ∙ ap (λ b. if b then false else of_bits n (suc k - 1)) not_zero
          ∙ ap (λ i. of_bits n i) less ∙ bit_of n k lower))
      | inr g ↦
          (let large : 64 ≤ suc k = omega arith in
          none_past (n * 2 ^ 1 % 2 ^ 64) (suc k) large ∙ sym (ap (λ b. b && (if suc k == 0 then false else of_bits n (suc k - 1))) (ge_is (suc k) large)))
    ]

-- ---- offsets found one after the other

pub none_below : (test : ℕ → Bool) (set : Words) → set ≡ nothing → set ≡ (λ v. nat_lt v 0 && test v)
none_below test set none = none ∙ fun_ext (λ v. ap (λ b. b && test v) (sym (le-ltb v 0 (omega arith))))

below_next : (v o : ℕ) → v ≢ o → nat_lt v (o + 1) ≡ nat_lt v o
below_next v o other = grind (arith, nat_tests)

and_falsity : (b : Bool) → (b && false) ≡ false
and_falsity true = refl
and_falsity false = refl

-- one more that passes, and one that does not
taken_at : (test : ℕ → Bool) (o : ℕ) → test o ≡ true → (v : ℕ) → ((nat_lt v o && test v) || v == o) ≡ (nat_lt v (o + 1) && test v)
taken_at test o passes v = elim (cases_eq v o) [
  | inl e ↦ rw (e, eq-eqb o o refl, lt-ltb o (o + 1) (omega arith), passes, le-ltb o o (omega arith)) refl
  | inr n ↦ rw (ne_eqb v o n, below_next v o n) (or_false (nat_lt v o && test v))
]

left_at : (test : ℕ → Bool) (o : ℕ) → test o ≡ false → (v : ℕ) → (nat_lt v o && test v) ≡ (nat_lt v (o + 1) && test v)
left_at test o fails v = elim (cases_eq v o) [
  | inl e ↦ rw (e, fails) (and_falsity (nat_lt o o) ∙ sym (and_falsity (nat_lt o (o + 1))))
  | inr n ↦ rw (below_next v o n) refl
]

pub one_next : (test : ℕ → Bool) (set new : Words) (o : ℕ) (chosen : Bool) → chosen ≡ test o → set ≡ (λ v. nat_lt v o && test v) → new ≡ (if chosen then with_word o set else set) → new ≡ (λ v. nat_lt v (o + 1) && test v)
one_next test set new o true is so_far grown = grown ∙ fun_ext (λ v. ap (λ (s : Words). s v || v == o) so_far ∙ taken_at test o (sym is) v)
one_next test set new o false is so_far grown = grown ∙ (so_far ∙ fun_ext (left_at test o (sym is)))

pub all_below : (test : ℕ → Bool) (n : ℕ) → n ≡ 64 → (let found : Words = λ v. nat_lt v n && test v in found) ≡ (λ v. nat_lt v 64 && test v)
all_below test n same = ap (λ k. let found : Words = λ v. nat_lt v k && test v in found) same

-- what a set and another have in common
pub reaches : (sites to shifted_sites both : Words) (k o : ℕ) (empty chosen : Bool) → k ≡ o + 1 → shifted_sites ≡ shifted sites k → both ≡ meet shifted_sites to → empty ≡ not (has_some both) → chosen ≡ not empty
    → chosen ≡ has_some (meet (shifted sites (o + 1)) to)
reaches sites to shifted_sites both k o empty chosen is_k is_shifted is_both is_empty is =
    rw (is, is_empty, is_both, is_shifted, is_k) (not_not (has_some (meet (shifted sites (o + 1)) to)))
  where
    not_not : (b : Bool) → not (not b) ≡ b
    not_not true = refl
    not_not false = refl
