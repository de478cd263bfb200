-- A narrowed fact keeps what rows ask of a fact: relations of few terms, and chains with room for one step more.
use Rattle.std.proofs.Common.{◌≡◌, ℕ, ◌≤◌, true, ◌&&◌, List, [], ◌∷◌, ◌++◌, length, sym, subst, arith}
use Rattle.std.specs.Prelude.{Option, Some, None, flat_map}
use Rattle.std.specs.List.{list_all}
use Rattle.std.proofs.lemmas.Bool.{cond_both, false≢true}
use Rattle.wordset.specs.Words.{Words, meet}
use Rattle.processor.specs.Runs.{Image}
use Rattle.domain.specs.Terms.{Term, Holding, Behind, Sum, same_sum, arranged, multiplied}
use Rattle.domain.specs.Shapes.{Spelled, spelled, has_shape, if_shaped}
use Rattle.domain.specs.Facts.{Relation, Fact, Rules, OfSums}
use Rattle.domain.specs.Chains.{Chain}
use Rattle.domain.specs.ChainsInCode.{AreShort}
use Rattle.domain.specs.Adding.{times, is_kept, with_relation, with_term_in, with_shape_in, with_spelled_in, adding, adding_all}
use Rattle.domain.specs.Narrowing.{narrowed, parts_of, parts_of_chain, links_of_chain}
use Rattle.domain.proofs.AddingLemmas.{adding_keeps}
use Rattle.transfer.specs.Shaped.{HaveFewTerms}

pub shape_few : (sum : Sum) → has_shape sum ≡ true → length sum ≤ 3
shape_few [] h = omega arith
shape_few (s ∷ []) h = omega arith
shape_few (s ∷ t ∷ []) h = omega arith
shape_few (s ∷ t ∷ u ∷ []) h = omega arith
shape_few (s ∷ t ∷ u ∷ v ∷ vs) h = absurd (false≢true h)

-- The sum that is found, if there is one, has few terms.
abbrev IsFew : Option Spelled → Type 0
IsFew None = Unit {0}
IsFew (Some s) = length s.sum ≤ 3

shaped_few : (sum : Sum) (sign : ℕ) → IsFew (if_shaped sum sign)
shaped_few sum sign = cond_both (has_shape sum) (Some (record { sum = sum; sign = sign })) None IsFew (λ e. shape_few sum e) (λ e. tt)

spelled_few : (sum : Sum) → IsFew (spelled sum)
spelled_few sum = cond_both (has_shape (arranged sum)) (if_shaped (arranged sum) 1) (if_shaped (multiplied 4095 (arranged sum)) 4095) IsFew
    (λ e. shaped_few (arranged sum) 1) (λ e. shaped_few (multiplied 4095 (arranged sum)) 4095)

relation_few : (sum : Sum) (set : Words) (rs : List Relation) → length sum ≤ 3 → HaveFewTerms rs → HaveFewTerms (with_relation sum set rs)
relation_few sum set [] few all = (few, tt)
relation_few sum set (r ∷ rs) few all =
    cond_both (same_sum r.sum sum) (record { sum = sum; set = meet r.set set } ∷ rs) (r ∷ with_relation sum set rs) HaveFewTerms
    (λ e. (few, all.1)) (λ e. (all.0, relation_few sum set rs few all.1))

term_few : (t : Term) (set : Words) (f : Fact) → HaveFewTerms f.relations → HaveFewTerms (with_term_in t set f).relations
term_few (Holding n) set f all = all
term_few (Behind x k) set f all = all

shape_added_few : (rules : Rules) (sum : Sum) (set : Words) (f : Fact) → length sum ≤ 3 → HaveFewTerms f.relations → HaveFewTerms (with_shape_in rules sum set f).relations
shape_added_few rules [] set f few all = all
shape_added_few rules (s ∷ []) set f few all = term_few s.term set f all
shape_added_few rules (s ∷ t ∷ ts) set f few all =
    cond_both (is_kept rules (s ∷ t ∷ ts) set) (record f { relations = with_relation (s ∷ t ∷ ts) set f.relations }) f (λ (g : Fact). HaveFewTerms g.relations)
    (λ e. relation_few (s ∷ t ∷ ts) set f.relations few all) (λ e. all)

spelled_added_few : (rules : Rules) (o : Option Spelled) (set : Words) (f : Fact) → IsFew o → HaveFewTerms f.relations → HaveFewTerms (with_spelled_in rules o set f).relations
spelled_added_few rules None set f few all = all
spelled_added_few rules (Some s) set f few all = shape_added_few rules s.sum (times s.sign set) f few all

-- What is added has one of the shapes.
pub adding_few : (rules : Rules) (rs : List Relation) (f : Fact) → HaveFewTerms f.relations → HaveFewTerms (adding_all rules rs f).relations
adding_few rules [] f all = all
adding_few rules (r ∷ rs) f all = adding_few rules rs (adding rules r f) (spelled_added_few rules (spelled r.sum) r.set f (spelled_few r.sum) all)

-- What is added when a fact is narrowed, and to what.
abbrev all_told : Image → Fact → List Relation
all_told image f = flat_map (λ (r : Relation). parts_of image f r.sum r.set) f.relations ++ flat_map (λ (c : Chain). parts_of_chain f c) f.chains

abbrev linked : Image → Fact → Fact
linked image f = record f { link = λ l. f.link l && list_all (λ (c : Chain). links_of_chain f c l) f.chains }

pub narrowed_few : (image : Image) (f : Fact) → HaveFewTerms f.relations → HaveFewTerms (narrowed image f).relations
unfolding narrowed
narrowed_few image f all = adding_few OfSums (all_told image f) (linked image f) all

pub narrowed_chains : (image : Image) (f : Fact) → (narrowed image f).chains ≡ f.chains
unfolding narrowed
narrowed_chains image f = (adding_keeps OfSums (all_told image f) (linked image f)).chains

pub narrowed_short : (image : Image) (f : Fact) → AreShort f.chains → AreShort (narrowed image f).chains
narrowed_short image f short = subst AreShort (sym (narrowed_chains image f)) short
