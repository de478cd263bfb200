-- The greatest word, and the carries of sums.
use Rattle.std.proofs.Common.{◌≡◌, ◌≢◌, ℕ, suc, ◌+◌, ◌-◌, ◌*◌, ◌/◌, ◌%◌, ◌^◌, ◌<◌, ◌≤◌, ◌==◌, Bool, true, false, ◌&&◌, List, get_or, refl, sym, ◌∙◌, ap, inl, inr, arith, not, IsTrue, ◌↔◌}
use Rattle.std.specs.Int.{bit_at}
use Rattle.std.proofs.lemmas.Bool.{cases_eq, cases_lt, eq-eqb, eqb-true}
use Rattle.std.proofs.lemmas.Nat.{pow_pos, mod-pow-add, leading_top}
use Rattle.std.proofs.lemmas.Nat.Bits.{bit_at-zero, bit_at-lt, bit_at_above}
use native.Mathlib.Nat.{mod-eq_of_lt}
use lib.Count.{count_leading_zeros}
use Rattle.wordset.specs.Words.{Words, nothing, some_below, carries, IsFirstFrom, IsGreatest}
use Rattle.wordset.specs.Lanes.{words, AreLanes}
use Rattle.wordset.proofs.LaneBits.{words_at}
use Rattle.wordset.proofs.Tests.{true_false, some_from, some_to, IsSome, and_both, and_first, and_second}

-- a word below 64 * (i + 1) and at or above 64 * i + n
past_lane : (lanes : List ℕ) (i n v : ℕ) → i < 64 → ((u : ℕ) → 64 * (i + 1) ≤ u → u < 4096 → words lanes u ≡ false) → ((j : ℕ) → n ≤ j → bit_at (get_or lanes i 0) j ≡ 0) → 64 * i + n ≤ v → v < 4096 → words lanes v ≡ false
past_lane lanes i n v small after bits h g = elim (cases_lt v (64 * (i + 1))) [
  | inr l ↦ after v l g
  | inl l ↦
      (let e : 64 * i + (v - 64 * i) ≡ v = omega arith in
      let lt : v - 64 * i < 64 = omega arith in
      ap (λ u. words lanes u) (sym e) ∙ words_at lanes i (v - 64 * i) small lt ∙ ap (λ b. b == 1) (bits (v - 64 * i) (omega arith)))
]

pub none_past : (lanes : List ℕ) (i : ℕ) → i < 64 → ((u : ℕ) → 64 * (i + 1) ≤ u → u < 4096 → words lanes u ≡ false) → get_or lanes i 0 ≡ 0 → (v : ℕ) → 64 * i ≤ v → v < 4096 → words lanes v ≡ false
none_past lanes i small after z v h g = past_lane lanes i 0 v small after (λ j le. ap (λ n. bit_at n j) z ∙ bit_at-zero j) (omega arith) g

top_bit : (a j : ℕ) → 2 ^ j ≤ a → a < 2 ^ (1 + j) → bit_at a j ≡ 1
top_bit a j low high = elim (cases_eq (bit_at a j) 1) [
  | inl e ↦ e
  | inr n ↦
      (let z : bit_at a j ≡ 0 = omega (arith, bit_at-lt a j) in
      let whole : a % 2 ^ (1 + j) ≡ a = mod-eq_of_lt high in
      let parts : a % 2 ^ (1 + j) ≡ bit_at a j * 2 ^ j + a % 2 ^ j = mod-pow-add a 1 j in
      let gone : bit_at a j * 2 ^ j ≡ 0 * 2 ^ j = ap (λ b. b * 2 ^ j) z in
      let rest : a % 2 ^ j < 2 ^ j = omega (arith, pow_pos j) in
      absurd (omega arith))
]

pub IsGreatest-lane : (lanes : List ℕ) (i : ℕ) → AreLanes lanes → i < 64 → ((u : ℕ) → 64 * (i + 1) ≤ u → u < 4096 → words lanes u ≡ false) → get_or lanes i 0 ≢ 0
    → IsGreatest (words lanes) (64 * i + (63 - count_leading_zeros 64 (get_or lanes i 0)))
IsGreatest-lane lanes i is small after some = go (leading_top 64 (get_or lanes i 0) (omega arith) (is.fit i))
  where
    go : (j : ℕ) × (count_leading_zeros 64 (get_or lanes i 0) + suc j ≡ 64) × (2 ^ j ≤ get_or lanes i 0) × (get_or lanes i 0 < 2 ^ suc j) → IsGreatest (words lanes) (64 * i + (63 - count_leading_zeros 64 (get_or lanes i 0)))
    go (j, top, low, high) =
        let at : 63 - count_leading_zeros 64 (get_or lanes i 0) ≡ j = omega arith in
        let lt : j < 64 = omega arith in
        let order : suc j ≡ 1 + j = omega arith in
        let high' : get_or lanes i 0 < 2 ^ (1 + j) = omega (arith, ap (λ k. 2 ^ k) order) in
        rw at (record {
          small = omega arith;
          within = words_at lanes i j small lt ∙ ap (λ b. b == 1) (top_bit (get_or lanes i 0) j low high');
          after = λ v h g. past_lane lanes i (suc j) v small after (λ k le. bit_at_above (get_or lanes i 0) (suc j) k high le) (omega arith) g;
        })

-- ---- carries

pub record IsSum (a b : Words) (k : ℕ) : Type 0 where
  pub x : ℕ
  pub y : ℕ
  pub x_small : x < 4096
  pub y_small : y < 4096
  pub x_in : a x ≡ true
  pub y_in : b y ≡ true
  pub is : (x + y) / 4096 ≡ k

from_carries : (a b : Words) (k : ℕ) → carries a b k ≡ true → IsSum a b k
from_carries a b k e =
    let s : IsSome 4096 (λ x. a x && some_below 4096 (λ y. b y && ((x + y) / 4096 == k))) = some_to 4096 (λ x. a x && some_below 4096 (λ y. b y && ((x + y) / 4096 == k))) e in
    let t : IsSome 4096 (λ y. b y && ((s.at + y) / 4096 == k)) = some_to 4096 (λ y. b y && ((s.at + y) / 4096 == k)) (and_second (a s.at) (some_below 4096 (λ y. b y && ((s.at + y) / 4096 == k))) s.holds) in
    record {
      x = s.at;
      y = t.at;
      x_small = s.small;
      y_small = t.small;
      x_in = and_first (a s.at) (some_below 4096 (λ y. b y && ((s.at + y) / 4096 == k))) s.holds;
      y_in = and_first (b t.at) ((s.at + t.at) / 4096 == k) t.holds;
      is = eqb-true _ _ (and_second (b t.at) ((s.at + t.at) / 4096 == k) t.holds);
    }

to_carries : (a b : Words) (k x y : ℕ) → x < 4096 → y < 4096 → a x ≡ true → b y ≡ true → (x + y) / 4096 ≡ k → carries a b k ≡ true
to_carries a b k x y hx hy ax by e =
    some_from 4096 (λ x. a x && some_below 4096 (λ y. b y && ((x + y) / 4096 == k))) x hx
    (and_both (a x) (some_below 4096 (λ y. b y && ((x + y) / 4096 == k))) ax (some_from 4096 (λ y. b y && ((x + y) / 4096 == k)) y hy (and_both (b y) ((x + y) / 4096 == k) by (eq-eqb _ _ e))))

false_unless : (p : Bool) → (p ≡ true → ⊥) → false ≡ p
false_unless true f = absurd (f refl)
false_unless false f = refl

pub carries_past : (a b : Words) (k : ℕ) → 2 ≤ k → carries a b k ≡ false
carries_past a b k h = sym (false_unless (carries a b k) (λ e. let s : IsSum a b k = from_carries a b k e in let x : s.x < 4096 = s.x_small in let y : s.y < 4096 = s.y_small in let is : (s.x + s.y) / 4096 ≡ k = s.is in omega arith))

pub no_left : (a b : Words) (k : ℕ) → a ≡ nothing → false ≡ carries a b k
no_left a b k none = false_unless (carries a b k) (λ e. let s : IsSum a b k = from_carries a b k e in true_false (sym s.x_in ∙ ap (λ t. t s.x) none))

pub no_right : (a b : Words) (k : ℕ) → b ≡ nothing → false ≡ carries a b k
no_right a b k none = false_unless (carries a b k) (λ e. let s : IsSum a b k = from_carries a b k e in true_false (sym s.y_in ∙ ap (λ t. t s.y) none))

not_below : (a : Words) (w x : ℕ) → IsFirstFrom 0 a w → a x ≡ true → w ≤ x
not_below a w x is t = elim (cases_lt x w) [ inl l ↦ absurd (true_false (sym t ∙ is.before x (omega arith) l)) | inr g ↦ g ]

not_above : (a : Words) (w x : ℕ) → IsGreatest a w → x < 4096 → a x ≡ true → x ≤ w
not_above a w x is h t = elim (cases_lt w x) [ inl l ↦ absurd (true_false (sym t ∙ is.after x l h)) | inr g ↦ g ]

pub stays : (a b : Words) (x y : ℕ) (r : Bool) → IsFirstFrom 0 a x → IsFirstFrom 0 b y → IsTrue r ↔ (4096 ≤ x + y) → not r ≡ carries a b 0
stays a b x y true p q tells = false_unless (carries a b 0) (λ e.
    let s : IsSum a b 0 = from_carries a b 0 e in
    let high : 4096 ≤ x + y = tells.0 refl in
    let lx : x ≤ s.x = not_below a x s.x p s.x_in in
    let ly : y ≤ s.y = not_below b y s.y q s.y_in in
    let none : (s.x + s.y) / 4096 ≡ 0 = s.is in
    omega arith)
stays a b x y false p q tells = elim (cases_lt (x + y) 4096) [
  | inl l ↦ sym (to_carries a b 0 x y p.small q.small p.within q.within (omega arith))
  | inr g ↦ absurd (true_false (sym (tells.1 g)))
]

pub goes : (a b : Words) (x y : ℕ) (r : Bool) → IsGreatest a x → IsGreatest b y → IsTrue r ↔ (4096 ≤ x + y) → r ≡ carries a b 1
goes a b x y true p q tells =
    let high : 4096 ≤ x + y = tells.0 refl in
    let hx : x < 4096 = p.small in
    let hy : y < 4096 = q.small in
    sym (to_carries a b 1 x y p.small q.small p.within q.within (omega arith))
goes a b x y false p q tells = false_unless (carries a b 1) (λ e.
    let s : IsSum a b 1 = from_carries a b 1 e in
    let lx : s.x ≤ x = not_above a x s.x p s.x_small s.x_in in
    let ly : s.y ≤ y = not_above b y s.y q s.y_small s.y_in in
    let some : (s.x + s.y) / 4096 ≡ 1 = s.is in
    let high : 4096 ≤ x + y = omega arith in
    true_false (sym (tells.1 high)))
