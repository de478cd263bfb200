-- Words in a row.
use Rattle.std.proofs.Common.{◌≡◌, ℕ, ◌+◌, ◌<◌, ◌≤◌, ◌==◌, Bool, true, false, ◌&&◌, refl, sym, ap, ◌∙◌, arith, inl, inr}
use Rattle.std.specs.Prelude.{nat_lt, not, Some, None}
use Rattle.std.proofs.Math.Path.{fun_ext}
use Rattle.std.proofs.lemmas.Bool.Decides.{nat_tests}
use Rattle.std.proofs.lemmas.Bool.{cases_eq, cases_lt, eq-eqb, ne_eqb}
use Rattle.wordset.specs.Words.{Words, between, one, nothing, with_word, meet, has_some, only, IsFirstFrom}
use Rattle.wordset.proofs.Tests.{some_from, some_none_of}
use Rattle.wordset.proofs.Firsts.{only_next, only_two, only_nothing}

pub same_if : (p q : Bool) → (p ≡ true → q ≡ true) → (q ≡ true → p ≡ true) → p ≡ q
same_if true q f g = sym (f refl)
same_if false true f g = g refl
same_if false false f g = refl

pub in_row : (a b v : ℕ) → a ≤ v → v ≤ b → between a b v ≡ true
in_row a b v h g = grind (arith, nat_tests)

pub below_row : (a b v : ℕ) → v < a → between a b v ≡ false
below_row a b v h = grind (arith, nat_tests)

pub above_row : (a b v : ℕ) → b < v → between a b v ≡ false
above_row a b v h = grind (arith, nat_tests)

none_at : (a b v : ℕ) → b < a → between a b v ≡ false
none_at a b v h = grind (arith, nat_tests)

pub no_row : (a b : ℕ) → b < a → between a b ≡ nothing
no_row a b h = fun_ext (λ v. none_at a b v h)

pub empty_row : between 1 0 ≡ nothing
empty_row = let lt : 0 < 1 = omega arith in no_row 1 0 lt

one_at : (w v : ℕ) → between w w v ≡ (v == w)
one_at w v = grind (arith, nat_tests)

pub one_row : (w : ℕ) → between w w ≡ one w
one_row w = fun_ext (one_at w)

pub meet_swap : (a b : Words) → meet a b ≡ meet b a
meet_swap a b = fun_ext (λ v. swap (a v) (b v))
  where
    swap : (x y : Bool) → (x && y) ≡ (y && x)
    swap true true = refl
    swap true false = refl
    swap false true = refl
    swap false false = refl

-- one word of a set, if the set has it
and_none : (b : Bool) → (b && false) ≡ false
and_none true = refl
and_none false = refl

pub keep_there : (a s : Words) (w : ℕ) → a w ≡ true → s ≡ with_word w nothing → s ≡ meet a (one w)
keep_there a s w has is = is ∙ fun_ext (λ v. elim (cases_eq v w) [
  | inl e ↦ (let same : (v == w) ≡ true = eq-eqb v w e in let there : a v ≡ true = ap a e ∙ has in rw (same, there) refl)
  | inr ne ↦ (let other : (v == w) ≡ false = ne_eqb v w ne in rw other (sym (and_none (a v))))
])

pub keep_nowhere : (a s : Words) (w : ℕ) → a w ≡ false → s ≡ nothing → s ≡ meet a (one w)
keep_nowhere a s w lacks is = is ∙ fun_ext (λ v. elim (cases_eq v w) [
  | inl e ↦ (let not_there : a v ≡ false = ap a e ∙ lacks in rw not_there refl)
  | inr ne ↦ (let other : (v == w) ≡ false = ne_eqb v w ne in rw other (sym (and_none (a v))))
])

first_of_row : (a b : ℕ) → a ≤ b → b < 4096 → IsFirstFrom 0 (between a b) a
first_of_row a b h s = record {
  small = omega arith;
  reached = omega arith;
  within = in_row a b a (omega arith) h;
  before = λ v f lt. below_row a b v lt;
}

next_of_row : (a b : ℕ) → a < b → b < 4096 → IsFirstFrom (a + 1) (between a b) (a + 1)
next_of_row a b h s = record {
  small = omega arith;
  reached = omega arith;
  within = in_row a b (a + 1) (omega arith) (omega arith);
  before = λ v f lt. absurd (omega arith);
}

pub only_none : (a b : ℕ) → b < a → None ≡ only (between a b)
only_none a b h = only_nothing (between a b) (λ v f lt. none_at a b v h)

pub only_more : (a b : ℕ) → a < b → b < 4096 → None ≡ only (between a b)
only_more a b h s = let le : a ≤ b = omega arith in only_two (between a b) a (a + 1) (first_of_row a b le s) (next_of_row a b h s)

pub only_one : (a b : ℕ) → a ≤ b → b ≤ a → b < 4096 → Some a ≡ only (between a b)
only_one a b h g s = only_next (between a b) a (first_of_row a b h s) (λ v f lt. let above : b < v = omega arith in above_row a b v above)

-- A row has a word where its first is not past its last.
pub row_has : (a b : ℕ) → a ≤ b → b < 4096 → has_some (between a b) ≡ true
row_has a b h s = some_from 4096 (between a b) a (omega arith) (in_row a b a (omega arith) h)

pub row_has_none : (a b : ℕ) → b < a → has_some (between a b) ≡ false
row_has_none a b h = some_none_of 4096 (between a b) (λ v lt. none_at a b v h)

less : (a b : ℕ) → a < b → nat_lt a b ≡ true
less a b h = grind (arith, nat_tests)

not_less : (a b : ℕ) → b ≤ a → nat_lt a b ≡ false
not_less a b h = grind (arith, nat_tests)

-- A row has no word where its last is less than its first.
pub row_empty : (a b : ℕ) → b < 4096 → nat_lt b a ≡ not (has_some (between a b))
row_empty a b s = elim (cases_lt b a) [
  | inl l ↦ less b a l ∙ sym (ap not (row_has_none a b l))
  | inr g ↦ not_less b a g ∙ sym (ap not (row_has a b g s))
]

-- One word is the only one of its set.
pub only_of_one : (w : ℕ) → w < 4096 → only (one w) ≡ Some w
only_of_one w s = ap only (sym (one_row w)) ∙ sym (only_one w w (omega arith) (omega arith) s)
