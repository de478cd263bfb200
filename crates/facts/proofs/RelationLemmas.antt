-- Relations and chains that are true: of lists, of the accumulator and a rest, and of chains that begin.
use Rattle.std.proofs.Common.{◌≡◌, ℕ, ◌-◌, ◌*◌, ◌%◌, ◌<◌, ◌==◌, Bool, true, false, not, ◌&&◌, Option, Some, None, List, [], ◌∷◌, ◌++◌, refl, sym, ap, ◌∙◌, arith}
use Rattle.std.specs.Prelude.{filter, flat_map}
use Rattle.std.proofs.lemmas.Bool.{and_from, and_parts, cond_both, eqb-true, eq-eqb, lt-ltb}
use Rattle.wordset.specs.Words.{plus, minus, Words, shifted, mirrored, only}
use Rattle.wordset.proofs.Firsts.{only_word}
use Rattle.processor.specs.Cells.{Cells}
use Rattle.domain.specs.Locations.{Location, Ac, Cell, same, Values}
use Rattle.domain.specs.Terms.{Term, Holding, Behind, Sum, term_value, sum_value, speaks_of, same_term, coefficient_in, without_term}
use Rattle.domain.specs.Chains.{Chain, gives, is_pair_of}
use Rattle.domain.specs.Facts.{Relation, Fact, Rules, OfEquations, OfSums, IsTrueOf, AllTrue, IsGiven, AllGiven, Holds}
use Rattle.domain.specs.Laws.{KeepsOthers}
use Rattle.domain.proofs.Numbers.{plus_lt}
use Rattle.domain.proofs.SumLemmas.{sums_are_kept, same_is, val_lt}
use Rattle.domain.proofs.AddingLemmas.{all_append}
use Rattle.domain.proofs.MoveLemmas.{sum_kept}
use Rattle.transfer.specs.Additions.{names, has_ac, if_without_ac, ac_with_rest, complemented, incremented}
use Rattle.transfer.specs.Stores.{begun_on, begun_by, has_chain_on, all_begun, with_begun}
use Rattle.facts.proofs.WordLemmas.{once, some_from, shift_true}
use Rattle.facts.proofs.TermLemmas.{term_apart, without_ac}

-- ---- lists

pub true_flat : (v w : Values) (start : Cells) (g : Relation → List Relation) → ((r : Relation) → IsTrueOf v start r → AllTrue w start (g r)) →
    (rs : List Relation) → AllTrue v start rs → AllTrue w start (flat_map g rs)
true_flat v w start g each [] t = tt
true_flat v w start g each (r ∷ rs) t = all_append w start (g r) (flat_map g rs) (each r t.0) (true_flat v w start g each rs t.1)

pub true_filter : (v : Values) (start : Cells) (test : Relation → Bool) (rs : List Relation) → AllTrue v start rs → AllTrue v start (filter test rs)
true_filter v start test [] t = tt
true_filter v start test (r ∷ rs) t =
    cond_both (test r) (r ∷ filter test rs) (filter test rs) (AllTrue v start) (λ q. (t.0, true_filter v start test rs t.1)) (λ q. true_filter v start test rs t.1)

given_append : (v : Values) (link : ℕ) (cs ds : List Chain) → AllGiven v link cs → AllGiven v link ds → AllGiven v link (cs ++ ds)
given_append v link [] ds t u = u
given_append v link (c ∷ cs) ds t u = (t.0, given_append v link cs ds t.1 u)

given_filter : (v : Values) (link : ℕ) (test : Chain → Bool) (cs : List Chain) → AllGiven v link cs → AllGiven v link (filter test cs)
given_filter v link test [] t = tt
given_filter v link test (c ∷ cs) t =
    cond_both (test c) (c ∷ filter test cs) (filter test cs) (AllGiven v link) (λ q. (t.0, given_filter v link test cs t.1)) (λ q. given_filter v link test cs t.1)

-- ---- a relation that does not speak of a name that changed

pub still_true : (v w : Values) (start : Cells) (n : Location) (r : Relation) → KeepsOthers (λ m. same m n) v w → names n r.sum ≡ false → IsTrueOf v start r → IsTrueOf w start r
still_true v w start n r k e t = ap r.set (sum_kept (λ m. same m n) start v w r.sum k e) ∙ t

pub without_true : (v w : Values) (start : Cells) (r : Relation) → KeepsOthers (λ m. same m Ac) v w → IsTrueOf v start r → AllTrue w start (if_without_ac r)
without_true v w start r k t = cond_both (names Ac r.sum) [] (r ∷ []) (AllTrue w start) (λ q. tt) (λ q. (still_true v w start Ac r k q t, tt))

-- ---- the accumulator and a rest

-- the rest of a sum with the accumulator
abbrev pub rest_of : Values → Cells → Sum → ℕ
rest_of v start sum = sum_value v start (without_term (Holding Ac) sum)

pub with_ac : (v : Values) (start : Cells) (sum : Sum) → has_ac sum ≡ true → sum_value v start sum ≡ plus (v Ac) (rest_of v start sum)
with_ac v start sum e =
    let c : coefficient_in (Holding Ac) sum ≡ 1 = eqb-true (coefficient_in (Holding Ac) sum) 1 e in
    term_apart v start (Holding Ac) sum ∙ (ap (λ x. plus (x * v Ac) (sum_value v start (without_term (Holding Ac) sum))) c ∙ once (v Ac) (sum_value v start (without_term (Holding Ac) sum)))

pub rest_kept : (v w : Values) (start : Cells) (sum : Sum) → KeepsOthers (λ m. same m Ac) v w → rest_of w start sum ≡ rest_of v start sum
rest_kept v w start sum k = sum_kept (λ m. same m Ac) start v w (without_term (Holding Ac) sum) k (without_ac sum)

-- the sum with the accumulator, after it took another word
pub ac_changed : (v w : Values) (start : Cells) (sum : Sum) → KeepsOthers (λ m. same m Ac) v w → has_ac sum ≡ true → sum_value w start sum ≡ plus (w Ac) (rest_of v start sum)
ac_changed v w start sum k e = with_ac w start sum e ∙ ap (plus (w Ac)) (rest_kept v w start sum k)

-- ---- CMA and IAC

-- the accumulator with the rest, each term of it times a number
pub ac_with_rest_value : (w : Values) (start : Cells) (c : ℕ) (t : Term) (sum : Sum) →
    sum_value w start (ac_with_rest c t sum) ≡ plus (w Ac) ((c * sum_value w start (without_term t sum)) % 4096)
ac_with_rest_value w start c t sum =
    ap (plus (1 * w Ac)) (sums_are_kept.multiplied w start c (without_term t sum)) ∙ once (w Ac) ((c * sum_value w start (without_term t sum)) % 4096)

complement_number : (a b r : ℕ) → a < 4096 → b ≡ 4095 - a → 4095 - plus b ((4095 * r) % 4096) ≡ plus a r
complement_number a b r h e = omega arith

pub complemented_true : (v w : Values) (start : Cells) (r : Relation) → KeepsOthers (λ m. same m Ac) v w → v Ac < 4096 → w Ac ≡ 4095 - v Ac →
    IsTrueOf v start r → AllTrue w start (complemented r)
complemented_true v w start r k h e t = cond_both (has_ac r.sum) (record { sum = ac_with_rest 4095 (Holding Ac) r.sum; set = mirrored r.set } ∷ []) (if_without_ac r) (AllTrue w start)
    (λ q.
    let rest : ℕ = rest_of v start r.sum in
    let is : sum_value w start (ac_with_rest 4095 (Holding Ac) r.sum) ≡ plus (w Ac) ((4095 * rest) % 4096) =
    ac_with_rest_value w start 4095 (Holding Ac) r.sum ∙ ap (λ x. plus (w Ac) ((4095 * x) % 4096)) (rest_kept v w start r.sum k) in
    let back : 4095 - plus (w Ac) ((4095 * rest) % 4096) ≡ sum_value v start r.sum = complement_number (v Ac) (w Ac) rest h e ∙ sym (with_ac v start r.sum q) in
    (ap (mirrored r.set) is ∙ and_from _ _ (lt-ltb (plus (w Ac) ((4095 * rest) % 4096)) 4096 (plus_lt (w Ac) ((4095 * rest) % 4096))) (ap r.set back ∙ t), tt))
    (λ q. without_true v w start r k t)

count_number : (a b r : ℕ) → b ≡ plus a 1 → minus (plus b r) 1 ≡ plus a r
count_number a b r e = omega arith

pub incremented_true : (v w : Values) (start : Cells) (r : Relation) → KeepsOthers (λ m. same m Ac) v w → w Ac ≡ plus (v Ac) 1 →
    IsTrueOf v start r → AllTrue w start (incremented r)
incremented_true v w start r k e t = cond_both (has_ac r.sum) (record { sum = r.sum; set = shifted r.set 1 } ∷ []) (if_without_ac r) (AllTrue w start)
    (λ q.
    let rest : ℕ = rest_of v start r.sum in
    let is : sum_value w start r.sum ≡ plus (w Ac) rest = ac_changed v w start r.sum k q in
    let back : minus (plus (w Ac) rest) 1 ≡ sum_value v start r.sum = count_number (v Ac) (w Ac) rest e ∙ sym (with_ac v start r.sum q) in
    (ap (shifted r.set 1) is ∙ shift_true r.set 1 (plus (w Ac) rest) (plus_lt (w Ac) rest) (ap r.set back ∙ t), tt))
    (λ q. without_true v w start r k t)

-- ---- chains that begin

-- the accumulator is as much more than the cell as their difference says
begun_number : (a x d : ℕ) → a < 4096 → plus (1 * a) (plus (4095 * x) 0) ≡ d → plus x d ≡ a
begun_number a x d h e = omega arith

chain_begins : (v : Values) (link x k : ℕ) (links : Words) → link < 2 → links link ≡ true → plus (v (Cell x)) k ≡ v Ac →
    IsGiven v link (record { cell = x; more = k; link = links; steps = [] })
chain_begins v link x k links h l e =
    some_from 2 (λ j. links j && is_pair_of (plus (v (Cell x)) k, j) (v Ac) link) link h
    (and_from _ _ l (and_from _ _ (eq-eqb (plus (v (Cell x)) k) (v Ac) e) (eq-eqb link link refl)))

begun_on_given : (v : Values) (start : Cells) (link : ℕ) (t : Term) (o : Option ℕ) (links : Words) → v Ac < 4096 → link < 2 → links link ≡ true →
    ((k : ℕ) → o ≡ Some k → plus (1 * v Ac) (plus (4095 * term_value v start t) 0) ≡ k) → AllGiven v link (begun_on t o links)
begun_on_given v start link (Holding (Cell x)) (Some k) links ha h l e = (chain_begins v link x k links h l (begun_number (v Ac) (v (Cell x)) k ha (e k refl)), tt)
begun_on_given v start link (Holding (Cell x)) None links ha h l e = tt
begun_on_given v start link (Holding Ac) o links ha h l e = tt
begun_on_given v start link (Behind x m) o links ha h l e = tt

begun_by_given : (v : Values) (start : Cells) (link : ℕ) (links : Words) (sum : Sum) (set : Words) → v Ac < 4096 → link < 2 → links link ≡ true →
    set (sum_value v start sum) ≡ true → AllGiven v link (begun_by links sum set)
begun_by_given v start link links [] set ha h l t = tt
begun_by_given v start link links (s ∷ []) set ha h l t = tt
begun_by_given v start link links (s ∷ u ∷ w ∷ ws) set ha h l t = tt
begun_by_given v start link links (s ∷ u ∷ []) set ha h l t =
    cond_both ((s.coefficient == 1) && (same_term s.term (Holding Ac) && (u.coefficient == 4095))) (begun_on u.term (only set) links) [] (AllGiven v link)
    (λ q.
    let parts = and_parts (s.coefficient == 1) (same_term s.term (Holding Ac) && (u.coefficient == 4095)) q in
    let more = and_parts (same_term s.term (Holding Ac)) (u.coefficient == 4095) parts.1 in
    let one_ac : s.coefficient ≡ 1 = eqb-true s.coefficient 1 parts.0 in
    let ac : s.term ≡ Holding Ac = same_is s.term (Holding Ac) more.0 in
    let less : u.coefficient ≡ 4095 = eqb-true u.coefficient 4095 more.1 in
    let is : sum_value v start (s ∷ u ∷ []) ≡ plus (1 * v Ac) (plus (4095 * term_value v start u.term) 0) =
    ap (λ c. plus (c * term_value v start s.term) (plus (u.coefficient * term_value v start u.term) 0)) one_ac
    ∙ (ap (λ x. plus (1 * term_value v start x) (plus (u.coefficient * term_value v start u.term) 0)) ac
    ∙ ap (λ c. plus (1 * v Ac) (plus (c * term_value v start u.term) 0)) less) in
    begun_on_given v start link u.term (only set) links ha h l
    (λ k e. sym is ∙ (only_word set k e).lone (sum_value v start (s ∷ u ∷ [])) (val_lt v start (s ∷ u ∷ [])) t))
    (λ q. tt)

all_begun_given : (v : Values) (start : Cells) (link : ℕ) (links : Words) (rs : List Relation) → v Ac < 4096 → link < 2 → links link ≡ true →
    AllTrue v start rs → AllGiven v link (all_begun links rs)
all_begun_given v start link links [] ha h l t = tt
all_begun_given v start link links (r ∷ rs) ha h l t =
    given_append v link (begun_by links r.sum r.set) (all_begun links rs) (begun_by_given v start link links r.sum r.set ha h l t.0) (all_begun_given v start link links rs ha h l t.1)

pub begun_given : (rules : Rules) (f : Fact) (v : Values) (start : Cells) (link : ℕ) → v Ac < 4096 → link < 2 → f.link link ≡ true →
    Holds f v start link → AllGiven v link (with_begun rules f)
begun_given OfEquations f v start link ha h l t = tt
begun_given OfSums f v start link ha h l t =
    given_append v link f.chains (filter (λ c. not (has_chain_on c.cell f.chains)) (all_begun f.link f.relations)) t.chains
    (given_filter v link (λ c. not (has_chain_on c.cell f.chains)) (all_begun f.link f.relations) (all_begun_given v start link f.link f.relations ha h l t.relations))

-- ---- a fact where no name changed

chains_kept : (v w : Values) (link : ℕ) (cs : List Chain) → KeepsOthers (λ m. false) v w → AllGiven v link cs → AllGiven w link cs
chains_kept v w link [] k t = tt
chains_kept v w link (c ∷ cs) k t = (
  ap (λ x. gives c x (w Ac) link) (k (Cell c.cell) refl) ∙ (ap (λ x. gives c (v (Cell c.cell)) x link) (k Ac refl) ∙ t.0),
  chains_kept v w link cs k t.1,
)

speaks_of_none : (sum : Sum) → speaks_of (λ m. false) sum ≡ false
speaks_of_none [] = refl
speaks_of_none (s ∷ ss) = speaks_of_none ss

relations_kept : (v w : Values) (start : Cells) (rs : List Relation) → KeepsOthers (λ m. false) v w → AllTrue v start rs → AllTrue w start rs
relations_kept v w start [] k t = tt
relations_kept v w start (r ∷ rs) k t = (ap r.set (sum_kept (λ m. false) start v w r.sum k (speaks_of_none r.sum)) ∙ t.0, relations_kept v w start rs k t.1)

pub holds_kept : (f : Fact) (v w : Values) (start : Cells) (link : ℕ) → KeepsOthers (λ m. false) v w → Holds f v start link → Holds f w start link
holds_kept f v w start link k h = record {
  sets = λ n. ap (f.set n) (k n refl) ∙ h.sets n;
  relations = relations_kept v w start f.relations k h.relations;
  chains = chains_kept v w link f.chains k h.chains;
}
