-- Sums of words by the carry with which they come.
use Rattle.std.proofs.Common.{◌≡◌, ℕ, ◌+◌, ◌-◌, ◌*◌, ◌<◌, ◌≤◌, ◌==◌, Bool, true, false, not, ◌&&◌, refl, sym, ap, ◌∙◌, inl, inr, arith}
use Rattle.std.specs.Prelude.{nat_le, nat_lt}
use Rattle.std.proofs.Math.Path.{fun_ext}
use Rattle.std.proofs.lemmas.Bool.Decides.{nat_tests}
use Rattle.std.proofs.lemmas.Bool.{cases_lt, eq-eqb, eqb-true, true≢false}
use Rattle.wordset.specs.Words.{Words, minus, all_words, nothing, between, meet, difference, shifted, some_below, IsFirstFrom, IsGreatest}
use Rattle.wordset.proofs.Tests.{some_from, some_to, IsSome, both_ways, and_both, and_first, and_second}
use Rattle.transfer.specs.Additions.{sums_carrying}
use Rattle.transfer.specs.Shaped.{sums_with}

le_to : (a b : ℕ) → a ≤ b → nat_le a b ≡ true
le_to a b h = grind (arith, nat_tests)

to_le : (a b : ℕ) → nat_le a b ≡ true → a ≤ b
to_le a b e = grind (arith, nat_tests)

in_row : (a b v : ℕ) → a ≤ v → v ≤ b → between a b v ≡ true
in_row a b v h k = and_both (nat_le a v) (nat_le v b) (le_to a v h) (le_to v b k)

row_low : (a b v : ℕ) → between a b v ≡ true → a ≤ v
row_low a b v e = to_le a v (and_first (nat_le a v) (nat_le v b) e)

below : (v : ℕ) → v < 4096 → nat_lt v 4096 ≡ true
below v h = grind (arith, nat_tests)

is_below : (v : ℕ) → nat_lt v 4096 ≡ true → v < 4096
is_below v e = grind (arith, nat_tests)

-- One word of a set and the sums with it that come without a carry.
pub without_carry_of : (w : ℕ) (s : Words) → w < 4096 → meet (shifted s w) (between w 4095) ≡ sums_with 0 w s
without_carry_of w s small = fun_ext (λ v. both_ways (meet (shifted s w) (between w 4095) v) (sums_with 0 w s v) (there v) (back v))
  where
    there : (v : ℕ) → meet (shifted s w) (between w 4095) v ≡ true → sums_with 0 w s v ≡ true
    there v e =
        let first : (nat_lt v 4096 && s (minus v w)) ≡ true = and_first (nat_lt v 4096 && s (minus v w)) (between w 4095 v) e in
        let lt : v < 4096 = is_below v (and_first (nat_lt v 4096) (s (minus v w)) first) in
        let le : w ≤ v = row_low w 4095 v (and_second (nat_lt v 4096 && s (minus v w)) (between w 4095 v) e) in
        let is : w + minus v w ≡ v + 0 * 4096 = omega arith in
        and_both (nat_lt v 4096) (some_below 4096 (λ y. s y && (w + y == v + 0 * 4096))) (below v lt)
        (some_from 4096 (λ y. s y && (w + y == v + 0 * 4096)) (minus v w) (omega arith)
        (and_both (s (minus v w)) (w + minus v w == v + 0 * 4096) (and_second (nat_lt v 4096) (s (minus v w)) first) (eq-eqb (w + minus v w) (v + 0 * 4096) is)))

    back : (v : ℕ) → sums_with 0 w s v ≡ true → meet (shifted s w) (between w 4095) v ≡ true
    back v e =
        let lt : v < 4096 = is_below v (and_first (nat_lt v 4096) (some_below 4096 (λ y. s y && (w + y == v + 0 * 4096))) e) in
        let y : IsSome 4096 (λ y. s y && (w + y == v + 0 * 4096)) = some_to 4096 (λ y. s y && (w + y == v + 0 * 4096)) (and_second (nat_lt v 4096) (some_below 4096 (λ y. s y && (w + y == v + 0 * 4096))) e) in
        let sum : w + y.at ≡ v + 0 * 4096 = eqb-true (w + y.at) (v + 0 * 4096) (and_second (s y.at) (w + y.at == v + 0 * 4096) y.holds) in
        let is : minus v w ≡ y.at = omega (arith, sum, y.small) in
        and_both (nat_lt v 4096 && s (minus v w)) (between w 4095 v)
        (and_both (nat_lt v 4096) (s (minus v w)) (below v lt) (ap s is ∙ and_first (s y.at) (w + y.at == v + 0 * 4096) y.holds))
        (in_row w 4095 v (omega (arith, sum)) (omega arith))

not_true : (b : Bool) → not b ≡ true → b ≡ false
not_true false e = refl
not_true true e = absurd (true≢false (sym e))

not_false : (b : Bool) → (b ≡ true → ⊥) → not b ≡ true
not_false false f = refl
not_false true f = absurd (f refl)

-- The same of those that come with one.
pub with_carry_of : (w : ℕ) (s : Words) → w < 4096 → difference (shifted s w) (between w 4095) ≡ sums_with 1 w s
with_carry_of w s small = fun_ext (λ v. both_ways (difference (shifted s w) (between w 4095) v) (sums_with 1 w s v) (there v) (back v))
  where
    there : (v : ℕ) → difference (shifted s w) (between w 4095) v ≡ true → sums_with 1 w s v ≡ true
    there v e =
        let first : (nat_lt v 4096 && s (minus v w)) ≡ true = and_first (nat_lt v 4096 && s (minus v w)) (not (between w 4095 v)) e in
        let lt : v < 4096 = is_below v (and_first (nat_lt v 4096) (s (minus v w)) first) in
        let out : between w 4095 v ≡ false = not_true (between w 4095 v) (and_second (nat_lt v 4096 && s (minus v w)) (not (between w 4095 v)) e) in
        let less : v < w = elim (cases_lt v w) [
          | inl l ↦ l
          | inr g ↦ absurd (true≢false (sym (in_row w 4095 v g (omega arith)) ∙ out))
        ] in
        let is : w + minus v w ≡ v + 1 * 4096 = omega arith in
        and_both (nat_lt v 4096) (some_below 4096 (λ y. s y && (w + y == v + 1 * 4096))) (below v lt)
        (some_from 4096 (λ y. s y && (w + y == v + 1 * 4096)) (minus v w) (omega arith)
        (and_both (s (minus v w)) (w + minus v w == v + 1 * 4096) (and_second (nat_lt v 4096) (s (minus v w)) first) (eq-eqb (w + minus v w) (v + 1 * 4096) is)))

    back : (v : ℕ) → sums_with 1 w s v ≡ true → difference (shifted s w) (between w 4095) v ≡ true
    back v e =
        let lt : v < 4096 = is_below v (and_first (nat_lt v 4096) (some_below 4096 (λ y. s y && (w + y == v + 1 * 4096))) e) in
        let y : IsSome 4096 (λ y. s y && (w + y == v + 1 * 4096)) = some_to 4096 (λ y. s y && (w + y == v + 1 * 4096)) (and_second (nat_lt v 4096) (some_below 4096 (λ y. s y && (w + y == v + 1 * 4096))) e) in
        let sum : w + y.at ≡ v + 1 * 4096 = eqb-true (w + y.at) (v + 1 * 4096) (and_second (s y.at) (w + y.at == v + 1 * 4096) y.holds) in
        let is : minus v w ≡ y.at = omega (arith, sum, y.small) in
        let less : v < w = omega (arith, sum, y.small) in
        and_both (nat_lt v 4096 && s (minus v w)) (not (between w 4095 v))
        (and_both (nat_lt v 4096) (s (minus v w)) (below v lt) (ap s is ∙ and_first (s y.at) (w + y.at == v + 1 * 4096) y.holds))
        (not_false (between w 4095 v) (λ t. (let le : w ≤ v = row_low w 4095 v t in absurd (omega (arith, le, less)))))

none_there : (a : Words) → some_below 4096 (λ x. a x && false) ≡ false
none_there a = both_ways (some_below 4096 (λ x. a x && false)) false
    (λ e. (let s : IsSome 4096 (λ x. a x && false) = some_to 4096 (λ x. a x && false) e in and_second (a s.at) false s.holds))
    (λ e. absurd (true≢false (sym e)))

-- What was gathered of each word is what the definition says.
pub gathered_sums : (c v : ℕ) (a b : Words) → some_below 4096 (λ x. a x && sums_with c x b v) ≡ sums_carrying c a b v
gathered_sums c v a b = go (nat_lt v 4096)
  where
    go : (t : Bool) → some_below 4096 (λ x. a x && (t && some_below 4096 (λ y. b y && (x + y == v + c * 4096)))) ≡ (t && some_below 4096 (λ x. a x && some_below 4096 (λ y. b y && (x + y == v + c * 4096))))
    go true = refl
    go false = none_there a

-- The two sets may change their places.
pub sums_turned : (c : ℕ) (a b : Words) → sums_carrying c a b ≡ sums_carrying c b a
sums_turned c a b = fun_ext (λ v. ap (λ t. nat_lt v 4096 && t) (both_ways (some_below 4096 (of a b v)) (some_below 4096 (of b a v)) (turn a b v) (turn b a v)))
  where
    of : Words → Words → ℕ → ℕ → Bool
    of a b v x = a x && some_below 4096 (λ y. b y && (x + y == v + c * 4096))

    turn : (a b : Words) (v : ℕ) → some_below 4096 (of a b v) ≡ true → some_below 4096 (of b a v) ≡ true
    turn a b v e =
        let x : IsSome 4096 (of a b v) = some_to 4096 (of a b v) e in
        let y : IsSome 4096 (λ y. b y && (x.at + y == v + c * 4096)) = some_to 4096 (λ y. b y && (x.at + y == v + c * 4096)) (and_second (a x.at) (some_below 4096 (λ y. b y && (x.at + y == v + c * 4096))) x.holds) in
        let sum : x.at + y.at ≡ v + c * 4096 = eqb-true (x.at + y.at) (v + c * 4096) (and_second (b y.at) (x.at + y.at == v + c * 4096) y.holds) in
        let swapped : y.at + x.at ≡ x.at + y.at = omega arith in
        some_from 4096 (of b a v) y.at y.small
        (and_both (b y.at) (some_below 4096 (λ z. a z && (y.at + z == v + c * 4096))) (and_first (b y.at) (x.at + y.at == v + c * 4096) y.holds)
        (some_from 4096 (λ z. a z && (y.at + z == v + c * 4096)) x.at x.small
        (and_both (a x.at) (y.at + x.at == v + c * 4096) (and_first (a x.at) (some_below 4096 (λ y. b y && (x.at + y == v + c * 4096))) x.holds)
        (eq-eqb (y.at + x.at) (v + c * 4096) (swapped ∙ sum)))))

-- Where a set has no word, there are no sums.
pub no_sums : (c : ℕ) (a b : Words) → ((v : ℕ) → v < 4096 → a v ≡ false) → nothing ≡ sums_carrying c a b
no_sums c a b none = fun_ext (λ v. both_ways false (sums_carrying c a b v) (λ e. absurd (true≢false (sym e)))
    (λ e. (let x : IsSome 4096 (λ x. a x && some_below 4096 (λ y. b y && (x + y == v + c * 4096))) = some_to 4096 (λ x. a x && some_below 4096 (λ y. b y && (x + y == v + c * 4096)))
    (and_second (nat_lt v 4096) (some_below 4096 (λ x. a x && some_below 4096 (λ y. b y && (x + y == v + c * 4096)))) e) in
    absurd (true≢false (sym (and_first (a x.at) (some_below 4096 (λ y. b y && (x.at + y == v + c * 4096))) x.holds) ∙ none x.at x.small)))))

-- A word x of a set makes a sum v with a word y.
one_sum : (c : ℕ) (a b : Words) (v x y : ℕ) → v < 4096 → x < 4096 → y < 4096 → a x ≡ true → b y ≡ true → x + y ≡ v + c * 4096 → sums_carrying c a b v ≡ true
one_sum c a b v x y vs xs ys ax by sum =
    and_both (nat_lt v 4096) (some_below 4096 (λ x. a x && some_below 4096 (λ y. b y && (x + y == v + c * 4096)))) (below v vs)
    (some_from 4096 (λ x. a x && some_below 4096 (λ y. b y && (x + y == v + c * 4096))) x xs
    (and_both (a x) (some_below 4096 (λ y. b y && (x + y == v + c * 4096))) ax
    (some_from 4096 (λ y. b y && (x + y == v + c * 4096)) y ys (and_both (b y) (x + y == v + c * 4096) by (eq-eqb (x + y) (v + c * 4096) sum)))))

-- The words of which a sum is made.
record Made (c : ℕ) (a b : Words) (v : ℕ) : Type 0 where
  pub small : v < 4096
  pub x : ℕ
  pub y : ℕ
  pub x_small : x < 4096
  pub y_small : y < 4096
  pub of_a : a x ≡ true
  pub of_b : b y ≡ true
  pub sum : x + y ≡ v + c * 4096

made_of : (c : ℕ) (a b : Words) (v : ℕ) → sums_carrying c a b v ≡ true → Made c a b v
made_of c a b v e =
    let s : IsSome 4096 (λ x. a x && some_below 4096 (λ y. b y && (x + y == v + c * 4096))) = some_to 4096 (λ x. a x && some_below 4096 (λ y. b y && (x + y == v + c * 4096)))
    (and_second (nat_lt v 4096) (some_below 4096 (λ x. a x && some_below 4096 (λ y. b y && (x + y == v + c * 4096)))) e) in
    let t : IsSome 4096 (λ y. b y && (s.at + y == v + c * 4096)) = some_to 4096 (λ y. b y && (s.at + y == v + c * 4096)) (and_second (a s.at) (some_below 4096 (λ y. b y && (s.at + y == v + c * 4096))) s.holds) in
    record {
      small = is_below v (and_first (nat_lt v 4096) (some_below 4096 (λ x. a x && some_below 4096 (λ y. b y && (x + y == v + c * 4096)))) e);
      x = s.at;
      y = t.at;
      x_small = s.small;
      y_small = t.small;
      of_a = and_first (a s.at) (some_below 4096 (λ y. b y && (s.at + y == v + c * 4096))) s.holds;
      of_b = and_first (b t.at) (s.at + t.at == v + c * 4096) t.holds;
      sum = eqb-true (s.at + t.at) (v + c * 4096) (and_second (b t.at) (s.at + t.at == v + c * 4096) t.holds);
    }

-- With all words the least word of a set tells which sums come without a carry.
pub from_least : (a : Words) (w : ℕ) → IsFirstFrom 0 a w → between w 4095 ≡ sums_carrying 0 a all_words
from_least a w first = fun_ext (λ v. both_ways (between w 4095 v) (sums_carrying 0 a all_words v)
    (λ e. (let low : w ≤ v = row_low w 4095 v e in
    let high : v ≤ 4095 = row_high w 4095 v e in
    one_sum 0 a all_words v w (v - w) (omega arith) first.small (omega arith) first.within (below (v - w) (omega arith)) (omega arith)))
    (λ e. (let m : Made 0 a all_words v = made_of 0 a all_words v e in
    let s : m.x + m.y ≡ v + 0 * 4096 = m.sum in
    let least : w ≤ m.x = elim (cases_lt m.x w) [
      | inl l ↦ absurd (true≢false (sym m.of_a ∙ first.before m.x (omega arith) l))
      | inr g ↦ g
    ] in
    in_row w 4095 v (omega (arith, s, least)) (omega (arith, m.small)))))
  where
    row_high : (a b v : ℕ) → between a b v ≡ true → v ≤ b
    row_high a b v e = to_le v b (and_second (nat_le a v) (nat_le v b) e)

-- And the greatest, which come with one.
pub below_greatest : (a : Words) (w : ℕ) → IsGreatest a w → difference all_words (between w 4095) ≡ sums_carrying 1 a all_words
below_greatest a w last = fun_ext (λ v. both_ways (difference all_words (between w 4095) v) (sums_carrying 1 a all_words v)
    (λ e. (let lt : v < 4096 = is_below v (and_first (nat_lt v 4096) (not (between w 4095 v)) e) in
    let out : between w 4095 v ≡ false = not_true (between w 4095 v) (and_second (nat_lt v 4096) (not (between w 4095 v)) e) in
    let less : v < w = elim (cases_lt v w) [
      | inl l ↦ l
      | inr g ↦ absurd (true≢false (sym (in_row w 4095 v g (omega arith)) ∙ out))
    ] in
    let small : w < 4096 = last.small in
    one_sum 1 a all_words v w (v + 4096 - w) lt small (omega arith) last.within (below (v + 4096 - w) (omega arith)) (omega arith)))
    (λ e. (let m : Made 1 a all_words v = made_of 1 a all_words v e in
    let s : m.x + m.y ≡ v + 1 * 4096 = m.sum in
    let greatest : m.x ≤ w = elim (cases_lt w m.x) [
      | inl l ↦ absurd (true≢false (sym m.of_a ∙ last.after m.x l m.x_small))
      | inr g ↦ g
    ] in
    let less : v < w = omega (arith, s, greatest, m.y_small) in
    and_both (nat_lt v 4096) (not (between w 4095 v)) (below v m.small)
    (not_false (between w 4095 v) (λ t. (let le : w ≤ v = row_low w 4095 v t in absurd (omega (arith, le, less))))))))
