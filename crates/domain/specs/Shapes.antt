-- The sums of which relations may speak, and how any sum is spelled as one of them.
use Rattle.std.specs.Prelude.{ℕ, ◌==◌, Bool, true, false, not, ◌&&◌, ◌||◌, if◌then◌else◌, Option, Some, None, [], ◌∷◌}
use Rattle.domain.specs.Locations.{Location, Ac, Cell, same}
use Rattle.domain.specs.Terms.{Term, Holding, Behind, Summand, Sum, is_sign, arranged, multiplied}

-- The term is what a cell holds.
abbrev pub is_cell : Term → Bool
is_cell (Holding (Cell a)) = true
is_cell (Holding Ac) = false
is_cell (Behind x k) = false

-- What may stand behind the first of two terms, which is a name x: a cell with any coefficient; or with a sign what stands
-- behind a cell, which is not x itself.
abbrev pub may_be_second : Location → ℕ → Term → Bool
may_be_second x c (Holding Ac) = false
may_be_second x c (Holding (Cell a)) = true
may_be_second x c (Behind y k) = is_sign c && not (same x (Cell y))

-- A sum of two terms of which the first is a name.
abbrev pub is_pair : Term → Summand → Bool
is_pair (Holding x) s = may_be_second x s.coefficient s.term
is_pair (Behind y k) s = false

-- A sum of the accumulator and the difference of two cells: one of them is added, and the other one taken away.
abbrev pub is_triple : Term → Summand → Summand → Bool
is_triple (Holding Ac) s t =
    is_cell s.term && (is_cell t.term &&
    (((s.coefficient == 1) && (t.coefficient == 4095)) || ((s.coefficient == 4095) && (t.coefficient == 1))))
is_triple (Holding (Cell a)) s t = false
is_triple (Behind x k) s t = false

-- The term is a name.
abbrev pub is_name : Term → Bool
is_name (Holding n) = true
is_name (Behind x k) = false

-- An arranged sum has one of the shapes of which relations may speak. The first term's coefficient is 1, and x is the
-- accumulator or a cell: x; x + c·y; x + [y + k] or x - [y + k]; AC + y - z or AC - y + z.
abbrev pub has_shape : Sum → Bool
has_shape (s ∷ []) = (s.coefficient == 1) && is_name s.term
has_shape (s ∷ t ∷ []) = (s.coefficient == 1) && is_pair s.term t
has_shape (s ∷ t ∷ u ∷ []) = (s.coefficient == 1) && is_triple s.term t u
has_shape _ = false

-- How a sum is spelled: as a sum of one of the shapes, with the sign by which that is multiplied to make the sum.
pub record Spelled : Type 0 where
  pub sum : Sum
  pub sign : ℕ

-- The sum, where it has one of the shapes.
abbrev pub if_shaped : Sum → ℕ → Option Spelled
if_shaped sum sign = if has_shape sum then Some (record { sum = sum; sign = sign }) else None

-- An arranged sum or the one with all signs changed, where one of them has a shape. They cannot both have one, since a shape
-- begins with the coefficient 1.
abbrev pub spelled_either : Sum → Option Spelled
spelled_either sum = if has_shape sum then if_shaped sum 1 else if_shaped (multiplied 4095 sum) 4095

-- How any sum of terms is spelled, if it says the same as a sum of one of the shapes.
abbrev pub spelled : Sum → Option Spelled
spelled sum = spelled_either (arranged sum)
