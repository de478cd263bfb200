-- What is known of sums after TAD, and what CMA and IAC make of them.
use Rattle.std.specs.Prelude.{ℕ, ◌+◌, ◌*◌, ◌-◌, ◌==◌, nat_lt, Bool, ◌&&◌, ◌||◌, if◌then◌else◌, Option, Some, None, List, [], ◌∷◌, ◌++◌, flat_map}
use Rattle.instruct.specs.Bits.{has_bit}
use Rattle.wordset.specs.Words.{Words, all_words, one, some_below, shifted, mirrored, sums, only}
use Rattle.domain.specs.Locations.{Location, Ac, same}
use Rattle.domain.specs.Terms.{Term, Holding, Sum, sum_of_name, speaks_of, coefficient_in, without_term, multiplied, is_sign}
use Rattle.domain.specs.Chains.{Chain, Adds, all_longer}
use Rattle.domain.specs.Facts.{Relation, Fact, OfSums}
use Rattle.domain.specs.Adding.{times, with_set, adding_all}
use Rattle.domain.specs.Moves.{free_of}

-- The sum speaks of this name.
abbrev pub names : Location → Sum → Bool
names n sum = speaks_of (λ m. same m n) sum

-- The sum is the accumulator plus a rest.
abbrev pub has_ac : Sum → Bool
has_ac sum = coefficient_in (Holding Ac) sum == 1

-- The relation, if it does not speak of the accumulator.
abbrev pub if_without_ac : Relation → List Relation
if_without_ac r = if names Ac r.sum then [] else r ∷ []

-- The sum less a term, which is there as often as it may be already.
abbrev pub less : Sum → Term → Sum
less sum t = sum ++ record { coefficient = 4095; term = t } ∷ []

-- The accumulator plus the rest of a sum, the term c·t in it left out and the others multiplied by c.
abbrev pub ac_with_rest : ℕ → Term → Sum → Sum
ac_with_rest c t sum = record { coefficient = 1; term = Holding Ac } ∷ multiplied c (without_term t sum)

-- What a relation without the accumulator says of it after TAD, where the operand is the term t and c its coefficient in the
-- sum. With c plus or minus one, the new AC plus c times the rest is the old AC plus c times the whole sum.
abbrev pub brought_by : ℕ → Term → Words → Relation → List Relation
brought_by c t ac r =
    if is_sign c then record { sum = ac_with_rest c t r.sum; set = sums (times c r.set) ac } ∷ [] else []

-- What a relation says besides after TAD, where the operand is the word of a term. With the accumulator, it says of the new AC
-- less the term what it said of the old AC.
abbrev pub brought : Words → Option Term → Relation → List Relation
brought ac None r = []
brought ac (Some t) r =
    if has_ac r.sum then record { sum = less r.sum t; set = r.set } ∷ []
    else (if names Ac r.sum then [] else brought_by (coefficient_in t r.sum) t ac r)

-- What a relation says after TAD of a word of the set `operand`, which is that of a term, if there is one; `ac` are the old
-- words of the accumulator. The new AC is the old one plus the operand.
abbrev pub after_tad : Words → Words → Option Term → Relation → List Relation
after_tad ac operand t r =
    (if has_ac r.sum then record { sum = r.sum; set = sums r.set operand } ∷ [] else if_without_ac r) ++ brought ac t r

-- The relations after TAD by the rules of sums: those that each relation makes, and those that the words of AC make, as a
-- relation of AC alone.
abbrev pub all_after_tad : Words → Option Term → Fact → List Relation
all_after_tad operand t f =
    flat_map (λ r. after_tad (f.set Ac) operand t r) (record { sum = sum_of_name Ac; set = f.set Ac } ∷ f.relations)

-- The fact without relations and chains, and with any word in the accumulator.
abbrev pub without_sums : Fact → Fact
without_sums f = record f { set = with_set Ac all_words f.set; relations = []; chains = [] }

-- By the rules of sums the fact after TAD, except for the link and chains.
abbrev pub summed : Words → Option Term → Fact → Fact
summed operand t f = adding_all OfSums (all_after_tad operand t f) (without_sums f)

-- The relations after a word w was added, of an accumulator of which equations are known.
abbrev pub equations_moved : ℕ → List Relation → List Relation
equations_moved w relations =
    flat_map
    (λ r. if has_ac r.sum then record { sum = r.sum; set = shifted r.set w } ∷ [] else if_without_ac r)
    relations

-- The accumulator is a cell's word plus a.
abbrev pub ac_is : Term → ℕ → Relation
ac_is t a = record {
  sum = record { coefficient = 1; term = Holding Ac } ∷ record { coefficient = 4095; term = t } ∷ [];
  set = one a;
}

-- The relations after TAD by the rules of equations. If the operand is the one target and AC one word a, AC is the target plus
-- a, and nothing else is known of AC. Else if the operand is one word, AC's equations move by it. Else they go.
abbrev pub equations_after_tad : Option Term → Option ℕ → Option ℕ → List Relation → List Relation
equations_after_tad (Some t) (Some a) w relations = ac_is t a ∷ free_of (λ n. same n Ac) relations
equations_after_tad t a (Some w) relations = equations_moved w relations
equations_after_tad t a None relations = free_of (λ n. same n Ac) relations

-- By the rules of equations the fact after TAD, except for the link. `known` are the accumulator's narrowed words. No chain stays,
-- as none begins.
abbrev pub equated : Words → Words → Option Term → Fact → Fact
equated known operand t f = record f {
  set = with_set Ac (sums known operand) f.set;
  relations = equations_after_tad t (only known) (only operand) f.relations;
  chains = [];
}

-- All sums x + y of two sets that come with this carry, less 10000 where there is one.
abbrev pub sums_carrying : ℕ → Words → Words → Words
sums_carrying carry a b v =
    nat_lt v 4096 && some_below 4096 (λ x. a x && some_below 4096 (λ y. b y && (x + y == v + carry * 4096)))

-- The words that the accumulator may hold after TAD where the link is then l: sums without a carry where it was l before, and
-- sums with a carry where it was the other one.
abbrev pub sums_under : Words → Words → Words → ℕ → Words
sums_under links a b l v =
    (links l && sums_carrying 0 a b v) || (links (1 - l) && sums_carrying 1 a b v)

-- Chains after TAD: one word that is added is a step more. Else they go.
abbrev pub chains_after_tad : Option ℕ → List Chain → List Chain
chains_after_tad (Some w) chains = all_longer (Adds w) chains
chains_after_tad None chains = []

-- A sum with the accumulator after CMA: AC' is -AC - 1, so AC' less the rest is -1 less the old sum.
abbrev pub complemented : Relation → List Relation
complemented r =
    if has_ac r.sum then record { sum = ac_with_rest 4095 (Holding Ac) r.sum; set = mirrored r.set } ∷ []
    else if_without_ac r

-- A sum with the accumulator after IAC is one more.
abbrev pub incremented : Relation → List Relation
incremented r =
    if has_ac r.sum then record { sum = r.sum; set = shifted r.set 1 } ∷ [] else if_without_ac r

-- The relations after CMA and then IAC, where a word of group 1 has them.
abbrev pub turned : ℕ → List Relation → List Relation
turned w relations =
    let first : List Relation = if has_bit 5 w then flat_map complemented relations else relations in
    if has_bit 0 w then flat_map incremented first else first
