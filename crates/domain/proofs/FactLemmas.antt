-- Facts of sums, part by part.
use Rattle.std.proofs.Common.{◌≡◌, ℕ, ◌<◌, List, [], ◌∷◌, length, refl, ap, arith}
use Rattle.std.specs.Prelude.{Option, Some, None}
use Rattle.std.proofs.Math.Path.{fun_ext}
use Rattle.wordset.specs.Words.{Words, all_words}
use Rattle.domain.specs.Locations.{Location, Ac, Cell}
use Rattle.domain.specs.TrackedCells.{TrackedCell}
use Rattle.domain.specs.Terms.{Sum}
use Rattle.domain.specs.Shapes.{Spelled, spelled}
use Rattle.domain.specs.Facts.{Fact, Rules}
use Rattle.domain.specs.Adding.{with_set, adding, with_spelled_in, with_shape_in, with_term_in, times, set_of_sum, set_if_spelled, set_of_shape, set_of_term, set_among}
use Rattle.domain.specs.InCode.{summand_at}
use Rattle.domain.specs.CellsInCode.{words_in_cells, with_cell}
use Rattle.domain.specs.FactInCode.{names_words}

-- The words of each name where those of one cell are others.
pub cell_replaced : (ac : Words) (new cells : List TrackedCell) (cell : ℕ) (s : Words) → words_in_cells new ≡ with_cell cell s (words_in_cells cells) →
    names_words ac new ≡ with_set (Cell cell) s (names_words ac cells)
cell_replaced ac new cells cell s e = fun_ext at
  where
    at : (n : Location) → names_words ac new n ≡ with_set (Cell cell) s (names_words ac cells) n
    at Ac = refl
    at (Cell a) = ap (λ (w : ℕ → Words). w a) e

-- The same where those of the accumulator are others.
pub ac_replaced : (ac s : Words) (cells : List TrackedCell) → names_words s cells ≡ with_set Ac s (names_words ac cells)
ac_replaced ac s cells = fun_ext at
  where
    at : (n : Location) → names_words s cells n ≡ with_set Ac s (names_words ac cells) n
    at Ac = refl
    at (Cell a) = refl

-- Of a sum that has no spelling nothing is added.
pub nothing_added : (rules : Rules) (sum : Sum) (set : Words) (f : Fact) → None ≡ spelled sum → f ≡ adding rules (record { sum = sum; set = set }) f
nothing_added rules sum set f e = ap (λ (o : Option Spelled). with_spelled_in rules o set f) e

-- Of one that has, it is added what its spelling says.
pub shape_added : (rules : Rules) (sum : Sum) (set : Words) (f : Fact) (s : Spelled) → Some s ≡ spelled sum → with_shape_in rules s.sum (times s.sign set) f ≡ adding rules (record { sum = sum; set = set }) f
shape_added rules sum set f s e = ap (λ (o : Option Spelled). with_spelled_in rules o set f) e

pub nothing_given : (sum : Sum) (f : Fact) → None ≡ spelled sum → set_if_spelled f None ≡ set_of_sum f sum
nothing_given sum f e = ap (λ (o : Option Spelled). set_if_spelled f o) e

pub shape_given : (sum : Sum) (f : Fact) (s : Spelled) → Some s ≡ spelled sum → set_if_spelled f (Some s) ≡ set_of_sum f sum
shape_given sum f s e = ap (λ (o : Option Spelled). set_if_spelled f o) e

-- ---- sums by how many terms they have

pub given_of_none : (f : Fact) (xs : Sum) → length xs ≡ 0 → all_words ≡ set_of_shape f xs
given_of_none f [] e = refl
given_of_none f (x ∷ xs) e = absurd (omega (arith, e))

pub given_of_one : (f : Fact) (xs : Sum) → length xs ≡ 1 → set_of_term f (summand_at xs 0).term ≡ set_of_shape f xs
given_of_one f [] e = absurd (omega (arith, e))
given_of_one f (x ∷ []) e = refl
given_of_one f (x ∷ y ∷ ys) e = absurd (omega (arith, e))

pub given_of_more : (f : Fact) (xs : Sum) → 1 < length xs → set_among xs f.relations ≡ set_of_shape f xs
given_of_more f [] e = absurd (omega (arith, e))
given_of_more f (x ∷ []) e = absurd (omega (arith, e))
given_of_more f (x ∷ y ∷ ys) e = refl

pub added_of_none : (rules : Rules) (set : Words) (f : Fact) (xs : Sum) → length xs ≡ 0 → f ≡ with_shape_in rules xs set f
added_of_none rules set f [] e = refl
added_of_none rules set f (x ∷ xs) e = absurd (omega (arith, e))

pub added_of_one : (rules : Rules) (set : Words) (f : Fact) (xs : Sum) → length xs ≡ 1 → with_term_in (summand_at xs 0).term set f ≡ with_shape_in rules xs set f
added_of_one rules set f [] e = absurd (omega (arith, e))
added_of_one rules set f (x ∷ []) e = refl
added_of_one rules set f (x ∷ y ∷ ys) e = absurd (omega (arith, e))
