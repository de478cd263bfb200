-- What may happen to a fact: a cell's word is incremented, a name takes a new word, or one of several cells
-- does.
use Rattle.std.specs.Prelude.{ℕ, ◌+◌, ◌-◌, ◌==◌, nat_lt, Bool, false, not, ◌&&◌, if◌then◌else◌, Option, Some, None, List, [], ◌∷◌, ◌++◌, map, filter, flat_map}
use Rattle.std.specs.List.{list_any}
use Rattle.wordset.specs.Words.{minus, Words, one, union, shifted, sums, meet, only, has_some}
use Rattle.domain.specs.Locations.{Location, Ac, Cell, same, has_cell, is_outside}
use Rattle.domain.specs.Terms.{Term, Holding, Behind, Sum, coefficient_in, speaks_of}
use Rattle.domain.specs.Chains.{Chain, after_count}
use Rattle.domain.specs.Facts.{Relation, Fact, Place, Rules, OfEquations, OfSums}
use Rattle.domain.specs.Adding.{times, with_set, with_name, adding_all}
use Rattle.domain.specs.Narrowing.{words_known}

-- The relations that speak of none of these names.
abbrev pub free_of : (Location → Bool) → List Relation → List Relation
free_of names relations = filter (λ r. not (speaks_of names r.sum)) relations

-- The chains on none of these names; and none at all, if the accumulator is one of them.
abbrev pub chains_free_of : (Location → Bool) → List Chain → List Chain
chains_free_of names chains = if names Ac then [] else filter (λ c. not (names (Cell c.cell))) chains

-- The chains on some cells.
abbrev pub chains_on : Words → List Chain → List Chain
chains_on cells chains = filter (λ c. cells c.cell) chains

-- The fact without what it says of these names beside their sets: their relations and chains go.
abbrev pub without_relations : (Location → Bool) → Fact → Fact
without_relations names f =
    record f { relations = free_of names f.relations; chains = chains_free_of names f.chains }

-- The fact after a name took some word of the set.
abbrev pub taking : Location → Words → Fact → Fact
taking n set f = with_name n set (without_relations (λ m. same m n) f)

-- A term after a number was added to a cell's word: what stands behind the cell keeps its word, by a number that is so much less.
abbrev pub counted_term : ℕ → ℕ → Term → Term
counted_term a d (Holding n) = Holding n
counted_term a d (Behind x k) = Behind x (if x == a then minus k d else k)

-- A sum's terms after it.
abbrev pub counted_sum : ℕ → ℕ → Sum → Sum
counted_sum a d sum = map (λ s. record { coefficient = s.coefficient; term = counted_term a d s.term }) sum

-- The term stands behind the cell.
abbrev pub is_behind : ℕ → Term → Bool
is_behind a (Holding n) = false
is_behind a (Behind x k) = x == a

-- The sum has a term that stands behind the cell.
abbrev pub has_behind : ℕ → Sum → Bool
has_behind a sum = list_any (λ s. is_behind a s.term) sum

-- A relation after a word of a set was added to the word of a cell, where the set has this word alone, or has others too.
-- The sum has become more by as much, times the cell's coefficient. What comes after the cell is known then only if the
-- word is known that was added.
abbrev pub moved_relation : ℕ → Words → Option ℕ → Relation → List Relation
moved_relation a by (Some d) r =
    record { sum = counted_sum a d r.sum; set = sums r.set (times (coefficient_in (Holding (Cell a)) r.sum) by) } ∷ []
moved_relation a by None r =
    if has_behind a r.sum then []
    else record { sum = r.sum; set = sums r.set (times (coefficient_in (Holding (Cell a)) r.sum) by) } ∷ []

-- The relations after it.
abbrev pub moved_relations : ℕ → Words → List Relation → List Relation
moved_relations a by relations = flat_map (moved_relation a by (only by)) relations

-- The fact after the cell's word was incremented by 1.
abbrev pub counted : Place → ℕ → Fact → Fact
counted pl a f = record f {
  set = with_set (Cell a) (shifted (words_known pl f (Cell a)) 1) f.set;
  relations = moved_relations a (one 1) f.relations;
  chains = map (after_count a 1) f.chains;
}

-- The names of the cells of a set.
abbrev pub cells_of : Words → Location → Bool
cells_of cells Ac = false
cells_of cells (Cell a) = has_cell cells a

-- The sets after one cell a of the set, unknown which, took some word of new a: each of them may still hold its old word.
abbrev pub weakly_updated_sets : Words → (ℕ → Words) → (Location → Words) → Location → Words
weakly_updated_sets cells new sets Ac = sets Ac
weakly_updated_sets cells new sets (Cell a) =
    if has_cell cells a then union (sets (Cell a)) (new a) else sets (Cell a)

-- The fact after one cell a of the set, unknown which, took some word of new a: relations and chains of all of them go.
abbrev pub weakly_updated : Words → (ℕ → Words) → Fact → Fact
weakly_updated cells new f =
    record (without_relations (cells_of cells) f) { set = λ n. weakly_updated_sets cells new f.set n }

-- The offsets after the return word went up by one: each of them is one more then, and 77 is the last that is kept.
abbrev pub counted_up : Words → Words
counted_up offsets o = nat_lt o 64 && (if o == 0 then false else offsets (o - 1))

-- The offsets from the return addresses of some sites to some words: those o for which the sum of a site, 1 and o, modulo 4096,
-- is one of the words. V14 sees to it that no sum passes 7777.
abbrev pub offsets_between : Words → Words → Words
offsets_between sites to o = nat_lt o 64 && has_some (meet (shifted sites (o + 1)) to)

-- The relations of which all names are outside the written set; so they do not speak of the accumulator.
abbrev pub outside : Words → List Relation → List Relation
outside written relations = filter (λ r. not (speaks_of (λ n. not (is_outside written n)) r.sum)) relations

-- The words of a cell that the callee does not write, by the fact at the JMS and by the exit. By the rules of equations the
-- exit's word on it is not heard.
abbrev pub words_outside : Rules → Words → Words → Words
words_outside OfSums call exit = meet call exit
words_outside OfEquations call exit = call

-- The relations after a call. By the rules of equations those of both stand side by side, even two of one sum.
abbrev pub joined_relations : Rules → List Relation → Fact → Fact
joined_relations OfSums kept exit = adding_all OfSums kept exit
joined_relations OfEquations kept exit = record exit { relations = kept ++ exit.relations }

-- After a call: the fact of the exit, with the sites and offsets of the fact at the JMS, its sets of the cells that were not
-- written, and its relations between them.
unfoldable pub joined : Rules → Fact → Fact → Words → Fact
joined rules call exit written =
    record (joined_relations rules (outside written call.relations) exit) {
      set = λ n. if is_outside written n then words_outside rules (call.set n) (exit.set n) else exit.set n;
      sites = call.sites;
      offsets = call.offsets;
    }
