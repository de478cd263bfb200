-- What is known after DCA, and which chains begin.
use Rattle.std.specs.Prelude.{ℕ, ◌==◌, Bool, not, ◌&&◌, if◌then◌else◌, Option, Some, None, List, [], ◌∷◌, ◌++◌, filter, flat_map}
use Rattle.std.specs.List.{list_any}
use Rattle.wordset.specs.Words.{Words, all_words, one, some_below, only}
use Rattle.domain.specs.Locations.{Ac, Cell}
use Rattle.domain.specs.Terms.{Term, Holding, Behind, Sum, sum_of_name, difference_of, same_term, without_term}
use Rattle.domain.specs.Chains.{Chain}
use Rattle.domain.specs.Facts.{Relation, Fact, Rules, OfEquations, OfSums}
use Rattle.domain.specs.Adding.{with_set, set_of_sum, adding_all}
use Rattle.domain.specs.Moves.{moved_relation, taking}
use Rattle.transfer.specs.Additions.{has_ac, names}

-- The sum with the cell in the accumulator's place.
abbrev pub with_cell_for_ac : ℕ → Sum → Sum
with_cell_for_ac y sum = record { coefficient = 1; term = Holding (Cell y) } ∷ without_term (Holding Ac) sum

-- The set has each word.
abbrev pub has_all_words : Words → Bool
has_all_words set = not (some_below 4096 (λ v. not (set v)))

-- What a relation says after AC was stored in the cell y. One that does not speak of y says of the cell what it said of AC. One
-- that speaks of y, and not of AC, moves by the words of AC - y, if anything is known of them. One with both goes.
abbrev pub after_store : ℕ → Words → Relation → List Relation
after_store y by r =
    if has_ac r.sum then (if names (Cell y) r.sum then [] else record { sum = with_cell_for_ac y r.sum; set = r.set } ∷ [])
    else (if names Ac r.sum then []
    else (if names (Cell y) r.sum then (if has_all_words by then [] else moved_relation y by (only by) r) else r ∷ []))

-- The relations after it by the rules of sums: those that each relation makes, and those that the words of AC and of y make.
abbrev pub all_after_store : ℕ → Fact → List Relation
all_after_store y f =
    flat_map (after_store y (set_of_sum f (difference_of Ac (Cell y))))
    (record { sum = sum_of_name Ac; set = f.set Ac } ∷ record { sum = sum_of_name (Cell y); set = f.set (Cell y) } ∷ f.relations)

-- By the rules of sums the fact after DCA of the one target y: AC is 0 then, and chains go. No relation that is added speaks of AC.
abbrev pub stored : ℕ → Fact → Fact
stored y f =
    adding_all OfSums (all_after_store y f)
    (record f { set = with_set Ac (one 0) (with_set (Cell y) all_words f.set); relations = []; chains = [] })

-- The relations that speak of AC and not of y, said of y.
abbrev pub copied_for : ℕ → Relation → List Relation
copied_for y r =
    if has_ac r.sum && not (names (Cell y) r.sum) then record { sum = with_cell_for_ac y r.sum; set = r.set } ∷ [] else []

-- By the rules of equations the fact after DCA of the one target y: y has the accumulator's words, what is said of AC is said of
-- y, and what was said of y goes; then AC is 0, and what was said of it goes. `known` are AC's narrowed words.
abbrev pub copied : ℕ → Words → Fact → Fact
copied y known f =
    adding_all OfEquations (flat_map (copied_for y) f.relations)
    (taking Ac (one 0) (taking (Cell y) known f))

-- The cell of which the accumulator is a known word more, by a relation of AC less this cell.
abbrev pub begun_on : Term → Option ℕ → Words → List Chain
begun_on (Holding (Cell x)) (Some k) links = record { cell = x; more = k; link = links; steps = [] } ∷ []
begun_on (Holding (Cell x)) None links = []
begun_on (Holding Ac) k links = []
begun_on (Behind x m) k links = []

-- The chain that begins by a relation: AC is a known word more than a cell, and the link is one of those.
abbrev pub begun_by : Words → Sum → Words → List Chain
begun_by links (s ∷ t ∷ []) set =
    if (s.coefficient == 1) && (same_term s.term (Holding Ac) && (t.coefficient == 4095))
    then begun_on t.term (only set) links else []
begun_by links [] set = []
begun_by links (s ∷ []) set = []
begun_by links (s ∷ t ∷ u ∷ us) set = []

-- A chain on the same cell is among them.
abbrev pub has_chain_on : ℕ → List Chain → Bool
has_chain_on x chains = list_any (λ c. c.cell == x) chains

-- The chains that begin by all relations.
abbrev pub all_begun : Words → List Relation → List Chain
all_begun links relations = flat_map (λ r. begun_by links r.sum r.set) relations

-- The chains of a fact, and one more on each cell without a chain of which AC is a known word more. By the rules of equations
-- there are none.
abbrev pub with_begun : Rules → Fact → List Chain
with_begun OfSums f = f.chains ++ filter (λ c. not (has_chain_on c.cell f.chains)) (all_begun f.link f.relations)
with_begun OfEquations f = []
