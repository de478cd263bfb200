-- Narrowing: each set of a fact is met once with what the relations and chains say of it, by the other sets as they stand.
use Rattle.std.specs.Prelude.{ℕ, ◌*◌, ◌%◌, Bool, ◌&&◌, List, [], ◌∷◌, ◌++◌, flat_map}
use Rattle.std.specs.List.{list_all}
use Rattle.wordset.specs.Words.{plus, Words, some_below}
use Rattle.processor.specs.Runs.{Image}
use Rattle.domain.specs.Locations.{Location, Ac, Cell, tape_word}
use Rattle.domain.specs.Terms.{Term, Holding, Behind, Sum, sum_of_name, difference_of}
use Rattle.domain.specs.Chains.{Chain, gives}
use Rattle.domain.specs.Facts.{Relation, Fact, Place, OfEquations, OfSums, Rules}
use Rattle.domain.specs.Adding.{differences, adding_all}
use Rattle.domain.specs.Knowing.{said_of}

-- That c times a term is in a set, said of the term's name: the name's words are those for which it may be so.
abbrev pub of_term : Image → ℕ → Term → Words → Relation
of_term image c (Holding n) set = record { sum = sum_of_name n; set = λ v. set ((c * v) % 4096) }
of_term image c (Behind x k) set = record {
  sum = sum_of_name (Cell x);
  set = λ v. some_below 4096 (λ w. tape_word (image (plus v k)) w && set ((c * w) % 4096));
}

-- That a part of a relation's sum is in a set, as it is added to a fact. Of no terms nothing is added.
abbrev pub of_part : Image → Sum → Words → List Relation
of_part image [] set = []
of_part image (s ∷ []) set = of_term image s.coefficient s.term set ∷ []
of_part image (s ∷ t ∷ ts) set = record { sum = s ∷ t ∷ ts; set = set } ∷ []

-- What a relation of a fact says of its first term and of the rest: the first term is the sum less the rest, and the rest
-- is the sum less the first term.
abbrev pub parts_of : Image → Fact → Sum → Words → List Relation
parts_of image f [] set = []
parts_of image f (s ∷ ss) set =
    of_part image (s ∷ []) (differences set (said_of image f ss)) ++
    of_part image ss (differences set (said_of image f (s ∷ [])))

-- A chain of a fact gives the accumulator w and the link l of the cell's word v, and the fact allows all three.
abbrev pub may_give : Fact → Chain → ℕ → ℕ → ℕ → Bool
may_give f c v w l = f.set (Cell c.cell) v && (f.set Ac w && (f.link l && gives c v w l))

-- What a chain of a fact says of its cell, of the accumulator, and of the accumulator less the cell: their words are those
-- of its results that the fact allows.
abbrev pub parts_of_chain : Fact → Chain → List Relation
parts_of_chain f c =
    record {
      sum = sum_of_name (Cell c.cell);
      set = λ v. some_below 4096 (λ w. some_below 2 (λ l. may_give f c v w l));
    } ∷ record {
      sum = sum_of_name Ac;
      set = λ w. some_below 4096 (λ v. some_below 2 (λ l. may_give f c v w l));
    } ∷ record {
      sum = difference_of Ac (Cell c.cell);
      set = λ d. some_below 4096 (λ v. some_below 2 (λ l. may_give f c v (plus v d) l));
    } ∷ []

-- The links that a chain of a fact allows.
abbrev pub links_of_chain : Fact → Chain → Words
links_of_chain f c l = some_below 4096 (λ v. some_below 4096 (λ w. may_give f c v w l))

-- The narrowed fact, N(F).
unfoldable pub narrowed : Image → Fact → Fact
narrowed image f =
    adding_all OfSums
    (flat_map (λ r. parts_of image f r.sum r.set) f.relations ++ flat_map (λ c. parts_of_chain f c) f.chains)
    (record f { link = λ l. f.link l && list_all (λ c. links_of_chain f c l) f.chains })

-- The words that a name may hold by a fact for which something is checked. By the rules of sums that is the narrowed
-- fact already; by those of equations it is the fact as it stands, and its sets are narrowed one by one.
abbrev pub words_by : Rules → Image → Fact → Location → Words
words_by OfSums image f n = f.set n
words_by OfEquations image f n = (narrowed image f).set n

-- The words that a name may have by what the fact says, at a place.
abbrev pub words_known : Place → Fact → Location → Words
words_known pl f n = words_by pl.rules pl.image f n

-- The fact of which everything is asked, by the rules: the narrowed one, or the fact as it stands.
abbrev pub asked_by : Rules → Image → Fact → Fact
asked_by OfSums image f = narrowed image f
asked_by OfEquations image f = f
