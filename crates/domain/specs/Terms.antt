-- Terms and sums of them: what relations speak of. All numbers are words, and sums and products are taken modulo 4096.
use Rattle.std.specs.Prelude.{ℕ, ◌*◌, ◌%◌, ◌==◌, Bool, true, false, not, ◌&&◌, ◌||◌, if◌then◌else◌, List, [], ◌∷◌, ◌++◌, filter, map, nat_lt}
use Rattle.std.specs.List.{list_any}
use Rattle.wordset.specs.Words.{plus}
use Rattle.processor.specs.Cells.{Cells}
use Rattle.domain.specs.Locations.{Location, Ac, Cell, same, Values}

-- A term: what the accumulator or a cell holds; or the word that stood at the start of the run in the cell whose address
-- is the word of the cell x plus k.
pub data Term : Type 0 where
  Holding : Location → Term
  Behind : ℕ → ℕ → Term

-- A term with its coefficient, the number by which its word is multiplied.
pub record Summand : Type 0 where
  pub coefficient : ℕ
  pub term : Term

-- A sum of terms, each with its coefficient.
abbrev pub Sum : Type 0
Sum = List Summand

-- The word of a term, by the words of the names and the memory at the start.
abbrev pub term_value : Values → Cells → Term → ℕ
term_value v start (Holding n) = v n
term_value v start (Behind x k) = start (plus (v (Cell x)) k)

-- The word that a sum has.
abbrev pub sum_value : Values → Cells → Sum → ℕ
sum_value v start [] = 0
sum_value v start (s ∷ ss) = plus (s.coefficient * term_value v start s.term) (sum_value v start ss)

-- The name of which a term speaks: that which holds its word, or the cell that holds the address of its word.
abbrev pub name_of_term : Term → Location
name_of_term (Holding n) = n
name_of_term (Behind x k) = Cell x

-- The sum speaks of one of these names.
abbrev pub speaks_of : (Location → Bool) → Sum → Bool
speaks_of names sum = list_any (λ s. names (name_of_term s.term)) sum

-- The two terms are one.
abbrev pub same_term : Term → Term → Bool
same_term (Holding n) (Holding m) = same n m
same_term (Behind x k) (Behind y l) = (x == y) && (k == l)
same_term (Holding n) (Behind y l) = false
same_term (Behind x k) (Holding m) = false

-- The accumulator stands before all cells, and a cell before those of greater addresses.
abbrev pub name_is_before : Location → Location → Bool
name_is_before Ac Ac = false
name_is_before Ac (Cell b) = true
name_is_before (Cell a) Ac = false
name_is_before (Cell a) (Cell b) = nat_lt a b

-- The order of terms in a sum: what names hold, by name, and then what stands behind a cell, by the cell and the number
-- that is added.
abbrev pub term_is_before : Term → Term → Bool
term_is_before (Holding n) (Holding m) = name_is_before n m
term_is_before (Holding n) (Behind y l) = true
term_is_before (Behind x k) (Holding m) = false
term_is_before (Behind x k) (Behind y l) = nat_lt x y || ((x == y) && nat_lt k l)

-- A term with a coefficient, or nothing if that is 0.
abbrev pub with_coefficient : ℕ → Term → Sum → Sum
with_coefficient c t rest = if c == 0 then rest else record { coefficient = c; term = t } ∷ rest

-- A sum in the order of its terms, with one summand more: a term that the sum has already gets both coefficients together.
abbrev pub with_summand : ℕ → Term → Sum → Sum
with_summand c t [] = with_coefficient (c % 4096) t []
with_summand c t (s ∷ ss) =
    if same_term t s.term then with_coefficient (plus c s.coefficient) t ss
    else (if term_is_before t s.term then with_coefficient (c % 4096) t (s ∷ ss) else s ∷ with_summand c t ss)

-- The sum with each term once, in the order of terms, and without those of coefficient 0.
abbrev pub collected : Sum → Sum
collected [] = []
collected (s ∷ ss) = with_summand s.coefficient s.term (collected ss)

-- A coefficient of 1, or of 7777, which is minus one.
abbrev pub is_sign : ℕ → Bool
is_sign c = (c == 1) || (c == 4095)

-- The sum as it is kept: its terms are collected, and one whose coefficient is not a sign comes behind those with a
-- sign.
abbrev pub arranged : Sum → Sum
arranged sum =
    filter (λ s. is_sign s.coefficient) (collected sum) ++ filter (λ s. not (is_sign s.coefficient)) (collected sum)

-- The sum, each term multiplied by a number.
abbrev pub multiplied : ℕ → Sum → Sum
multiplied c sum = map (λ s. record { coefficient = (c * s.coefficient) % 4096; term = s.term }) sum

-- Two sums are equal, summand by summand.
abbrev pub same_sum : Sum → Sum → Bool
same_sum [] [] = true
same_sum (s ∷ ss) (t ∷ ts) = (s.coefficient == t.coefficient) && (same_term s.term t.term && same_sum ss ts)
same_sum [] (t ∷ ts) = false
same_sum (s ∷ ss) [] = false

-- A name alone, as a sum of one term.
abbrev pub sum_of_name : Location → Sum
sum_of_name n = record { coefficient = 1; term = Holding n } ∷ []

-- One name less another: x - y.
abbrev pub difference_of : Location → Location → Sum
difference_of x y = record { coefficient = 1; term = Holding x } ∷ record { coefficient = 4095; term = Holding y } ∷ []

-- What a term's coefficient is in a sum: all its coefficients together, and 0 where the sum does not have the term.
abbrev pub coefficient_in : Term → Sum → ℕ
coefficient_in t [] = 0
coefficient_in t (s ∷ ss) = if same_term t s.term then plus s.coefficient (coefficient_in t ss) else coefficient_in t ss

-- The sum without a term.
abbrev pub without_term : Term → Sum → Sum
without_term t sum = filter (λ s. not (same_term t s.term)) sum
