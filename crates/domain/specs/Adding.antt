-- How a relation is added to a fact.
use Rattle.std.specs.Prelude.{ℕ, ◌*◌, ◌%◌, ◌==◌, Bool, true, false, not, ◌&&◌, ◌||◌, if◌then◌else◌, is_some, Option, Some, None, List, [], ◌∷◌}
use Rattle.std.specs.List.{list_any}
use Rattle.wordset.specs.Words.{Words, all_words, some_below, has_some, has_link, images_at, sums, meet, only}
use Rattle.domain.specs.Locations.{Location, Ac, Cell, same}
use Rattle.domain.specs.Terms.{Term, Holding, Behind, Sum, same_sum}
use Rattle.domain.specs.Shapes.{Spelled, spelled, is_name}
use Rattle.domain.specs.Facts.{Relation, Fact, Rules, OfEquations, OfSums}

-- All c·x for a word x of the set, modulo 4096. So `times 4095` are the negatives.
abbrev pub times : ℕ → Words → Words
times c set = images_at (λ x. (c * x) % 4096) set

-- All differences a - b of a word a of the one set and a word b of the other, modulo 4096.
abbrev pub differences : Words → Words → Words
differences a b = sums a (times 4095 b)

-- The sets with another one for a name.
abbrev pub with_set : Location → Words → (Location → Words) → Location → Words
with_set n set sets m = if same m n then set else sets m

-- The fact with another set for a name; what else it says of the name stays.
abbrev pub with_name : Location → Words → Fact → Fact
with_name n set f = record f { set = with_set n set f.set }

-- The relations with one more: where one of them has its sum already, the two sets are met.
abbrev pub with_relation : Sum → Words → List Relation → List Relation
with_relation sum set [] = record { sum = sum; set = set } ∷ []
with_relation sum set (r ∷ rs) =
    if same_sum r.sum sum then record { sum = sum; set = meet r.set set } ∷ rs else r ∷ with_relation sum set rs

-- The words that all relations of a sum allow: any word, if there is none.
abbrev pub set_among : Sum → List Relation → Words
set_among sum [] v = all_words v
set_among sum (r ∷ rs) v = (if same_sum r.sum sum then r.set v else true) && set_among sum rs v

-- The set of the name, if the term is one.
abbrev pub set_of_term : Fact → Term → Words
set_of_term f (Holding n) = f.set n
set_of_term f (Behind x k) = all_words

-- The set that a fact gives for a sum of one of the shapes: the name's own, or what its relations say of a longer sum.
abbrev pub set_of_shape : Fact → Sum → Words
set_of_shape f [] = all_words
set_of_shape f (s ∷ []) = set_of_term f s.term
set_of_shape f (s ∷ t ∷ ts) = set_among (s ∷ t ∷ ts) f.relations

-- The set of a sum that is one of the shapes by this sign: its negatives, where all signs are changed. Of a sum that has no
-- shape nothing is given.
abbrev pub set_if_spelled : Fact → Option Spelled → Words
set_if_spelled f None = all_words
set_if_spelled f (Some s) = times s.sign (set_of_shape f s.sum)

-- The set that a fact gives for any sum: F(f).
abbrev pub set_of_sum : Fact → Sum → Words
set_of_sum f sum = set_if_spelled f (spelled sum)

-- The fact with the name's set met with another one, if the term is a name.
abbrev pub with_term_in : Term → Words → Fact → Fact
with_term_in (Holding n) set f = with_name n (meet (f.set n) set) f
with_term_in (Behind x k) set f = f

-- The sum is x - y of two names, and the set is one word, as an equation says it.
abbrev pub is_equation : Sum → Words → Bool
is_equation [] set = false
is_equation (s ∷ []) set = false
is_equation (s ∷ t ∷ []) set = is_name t.term && ((t.coefficient == 4095) && is_some (only set))
is_equation (s ∷ t ∷ u ∷ us) set = false

-- By the rules of sums each relation is kept, by those of equations only an equation.
abbrev pub is_kept : Rules → Sum → Words → Bool
is_kept OfSums sum set = true
is_kept OfEquations sum set = is_equation sum set

-- The fact to which is added that a sum of one of the shapes is in a set.
abbrev pub with_shape_in : Rules → Sum → Words → Fact → Fact
with_shape_in rules [] set f = f
with_shape_in rules (s ∷ []) set f = with_term_in s.term set f
with_shape_in rules (s ∷ t ∷ ts) set f =
    if is_kept rules (s ∷ t ∷ ts) set
    then record f { relations = with_relation (s ∷ t ∷ ts) set f.relations }
    else f

-- The fact with the set of a sum that is one of the shapes by this sign; of one that has no shape nothing is added.
abbrev pub with_spelled_in : Rules → Option Spelled → Words → Fact → Fact
with_spelled_in rules None set f = f
with_spelled_in rules (Some s) set f = with_shape_in rules s.sum (times s.sign set) f

-- The fact to which is added that any sum is in a set.
abbrev pub adding : Rules → Relation → Fact → Fact
adding rules r f = with_spelled_in rules (spelled r.sum) r.set f

-- The fact to which all these are added. In which order does not matter: the sets of one sum are met.
abbrev pub adding_all : Rules → List Relation → Fact → Fact
adding_all rules [] f = f
adding_all rules (r ∷ rs) f = adding_all rules rs (adding rules r f)

-- The set has no word.
abbrev pub lacks_all : Words → Bool
lacks_all set = not (has_some set)

-- Some set that the fact gives has no word, so that no state satisfies it. Sites and offsets are not looked at: main has none.
abbrev pub is_void : Fact → Bool
is_void f =
    lacks_all f.mq || (not (has_link f.link) || (lacks_all (f.set Ac) || (some_below 4096 (λ a. lacks_all (f.set (Cell a))) ||
    list_any (λ r. lacks_all r.set) f.relations)))
