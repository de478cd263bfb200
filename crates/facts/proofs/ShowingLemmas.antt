-- Entailment part by part: one entry, relation or chain after another.
use Rattle.std.proofs.Common.{◌≡◌, ℕ, zero, suc, ◌+◌, ◌<◌, ◌≤◌, Bool, true, false, ◌&&◌, ◌||◌, ◌==◌, List, [], ◌∷◌, ◌++◌, map, drop, get_or, length, refl, sym, ap, ◌∙◌, subst, arith, inl, inr, Option, Some, None}
use Rattle.std.specs.Prelude.{IsTrue, ◌↔◌, ◌⊎◌, if◌then◌else◌, flat_map}
use Rattle.std.specs.List.{list_all}
use Rattle.std.proofs.Math.ListN.{drop_of_length-le}
use Rattle.std.proofs.lemmas.Bool.{and_from, and_parts, cond_both, eqb-true, eq-eqb, true≢false, false≢true, cases_eq, cases_lt, ne_eqb}
use Rattle.wordset.specs.Words.{Words, IsWithin, SameWords, IsLinkWithin, meet, plus, some_below}
use Rattle.wordset.proofs.SetLemmas.{lt_to, words_past}
use Rattle.wordset.specs.Lanes.{words}
use Rattle.wordset.specs.Links.{links_of}
use Rattle.wordset.specs.declared.links.Links.{Links}
use Rattle.processor.specs.Runs.{Image}
use Rattle.domain.specs.Locations.{Location, Ac, Cell, same}
use Rattle.domain.specs.TrackedCells.{TrackedCell, tracked}
use Rattle.domain.specs.Terms.{Summand, Sum, same_term, same_sum}
use Rattle.domain.specs.Shapes.{Spelled, spelled}
use Rattle.domain.specs.Facts.{Relation, Fact, Place, Rules, OfEquations, OfSums}
use Rattle.domain.specs.Adding.{adding, adding_all, with_shape_in, with_spelled_in, with_term_in, is_kept, times}
use Rattle.domain.specs.Terms.{Term, Holding, Behind}
use Rattle.domain.specs.Narrowing.{narrowed, parts_of, parts_of_chain, links_of_chain, words_by, words_known}
use Rattle.domain.specs.FactInCode.{names_words}
use Rattle.domain.proofs.ChainLemmas.{two_links}
use Rattle.domain.proofs.SumLemmas.{same_name, same_is}
use Rattle.domain.specs.Chains.{Chain, gives, after_steps}
use Rattle.domain.specs.ChainsInCode.{gives_from}
use Rattle.domain.specs.Knowing.{said_of}
use Rattle.domain.specs.Adding.{set_of_sum}
use Rattle.facts.specs.Entailment.{Among, EachGives, KnowsAll, KnowsBy, ShowsChain, ShowsChains, Entails}
use Rattle.facts.specs.Entailing.{EachWithin, EntailsRegisters, GivesIfAllowed, GivesAllowed}
use Rattle.transfer.proofs.EntailLemmas.{not_true, drop_item}

-- Lists of which each member has a property, in code and as they are meant.
pub each_step : {A : Type 0} {B : Type 0} (f : A → B) (P : List B → Type 0) (p : B → Type 0) → ((b : B) (bs : List B) → P (b ∷ bs) → p b × P bs) → ((b : B) (bs : List B) → p b × P bs → P (b ∷ bs)) →
    (xs : List A) (i : ℕ) (x : A) → i < length xs → x ≡ get_or xs i x → p (f x) → (P (map f (drop i xs)) ↔ P (map f xs)) → P (map f (drop (i + 1) xs)) ↔ P (map f xs)
each_step f P p apart put xs i x lt e w h = (
  λ r. h.0 (subst (λ ys. P (map f ys)) (sym (drop_item xs i x lt e)) (put (f x) (map f (drop (i + 1) xs)) (w, r))),
  λ a. (apart (f x) (map f (drop (i + 1) xs)) (subst (λ ys. P (map f ys)) (drop_item xs i x lt e) (h.1 a))).1,
)

pub each_fails : {A : Type 0} {B : Type 0} (f : A → B) (P : List B → Type 0) (p : B → Type 0) → ((b : B) (bs : List B) → P (b ∷ bs) → p b × P bs) →
    (xs : List A) (i : ℕ) (x : A) → i < length xs → x ≡ get_or xs i x → (p (f x) → ⊥) → (P (map f (drop i xs)) ↔ P (map f xs)) → IsTrue false ↔ P (map f xs)
each_fails f P p apart xs i x lt e not h =
    not_true (λ a. not (apart (f x) (map f (drop (i + 1) xs)) (subst (λ ys. P (map f ys)) (drop_item xs i x lt e) (h.1 a))).0)

-- Lists of which some member has a property.
pub some_step : {A : Type 0} {B : Type 0} (f : A → B) (P : List B → Type 0) (p : B → Type 0) → ((b : B) (bs : List B) → P (b ∷ bs) → p b ⊎ P bs) → ((b : B) (bs : List B) → p b ⊎ P bs → P (b ∷ bs)) →
    (xs : List A) (i : ℕ) (x : A) → i < length xs → x ≡ get_or xs i x → (p (f x) → ⊥) → (P (map f (drop i xs)) ↔ P (map f xs)) → P (map f (drop (i + 1) xs)) ↔ P (map f xs)
some_step f P p apart put xs i x lt e not h = (
  λ r. h.0 (subst (λ ys. P (map f ys)) (sym (drop_item xs i x lt e)) (put (f x) (map f (drop (i + 1) xs)) (inr r))),
  λ a. elim (apart (f x) (map f (drop (i + 1) xs)) (subst (λ ys. P (map f ys)) (drop_item xs i x lt e) (h.1 a))) [ inl q ↦ absurd (not q) | inr r ↦ r ],
)

-- the entries, one by one or by cell
pub each_tracked : (pl : Place) (f : Fact) (cells : List TrackedCell) → EachWithin pl f cells → (a : ℕ) → IsWithin (words_known pl f (Cell a)) (tracked a cells)
each_tracked pl f [] w a v lt h = lt_to v lt
each_tracked pl f (t ∷ ts) w a v lt h = and_from _ _ (cond_both (t.address == a) (t.set v) true (λ x. x ≡ true)
    (λ e. w.0 v lt (let q : t.address ≡ a = eqb-true t.address a e in rw q h)) (λ e. refl)) (each_tracked pl f ts w.1 a v lt h)

pub tracked_each : (pl : Place) (f : Fact) (cells : List TrackedCell) → ((a : ℕ) → IsWithin (words_known pl f (Cell a)) (tracked a cells)) → EachWithin pl f cells
tracked_each pl f [] w = tt
tracked_each pl f (t ∷ ts) w = (
  λ v lt h. let q : (t.address == t.address) ≡ true = eq-eqb t.address t.address refl in let p : ((if t.address == t.address then t.set v else true) && tracked t.address ts v) ≡ true = w t.address v lt h in
      (let r : (if t.address == t.address then t.set v else true) ≡ true = (and_parts _ _ p).0 in rw q at r),
  tracked_each pl f ts (λ a v lt h. (and_parts _ _ (w a v lt h)).1),
)

-- what is added takes words away, and puts none in
term_less : (t : Term) (set : Words) (f : Fact) (n : Location) (v : ℕ) → (with_term_in t set f).set n v ≡ true → f.set n v ≡ true
term_less (Holding m) set f n v h = cond_both (same n m) (meet (f.set m) set) (f.set n) (λ (chosen : Words). chosen v ≡ true → f.set n v ≡ true)
    (λ e w. let q : n ≡ m = same_name n m e in rw q (and_parts _ _ w).0) (λ e w. w) h
term_less (Behind x k) set f n v h = h

kept_less : (b : Bool) (f : Fact) (rs : List Relation) (n : Location) (v : ℕ) → (if b then record f { relations = rs } else f).set n v ≡ true → f.set n v ≡ true
kept_less true f rs n v h = h
kept_less false f rs n v h = h

shape_less : (rules : Rules) (sum : Sum) (set : Words) (f : Fact) (n : Location) (v : ℕ) → (with_shape_in rules sum set f).set n v ≡ true → f.set n v ≡ true
shape_less rules [] set f n v h = h
shape_less rules (s ∷ []) set f n v h = term_less s.term set f n v h
shape_less rules (s ∷ t ∷ ts) set f n v h = kept_less (is_kept rules (s ∷ t ∷ ts) set) f _ n v h

spelled_less : (rules : Rules) (o : Option Spelled) (set : Words) (f : Fact) (n : Location) (v : ℕ) → (with_spelled_in rules o set f).set n v ≡ true → f.set n v ≡ true
spelled_less rules None set f n v h = h
spelled_less rules (Some s) set f n v h = shape_less rules s.sum (times s.sign set) f n v h

pub added_less : (rules : Rules) (rs : List Relation) (f : Fact) (n : Location) (v : ℕ) → (adding_all rules rs f).set n v ≡ true → f.set n v ≡ true
added_less rules [] f n v h = h
added_less rules (r ∷ rs) f n v h = spelled_less rules (spelled r.sum) r.set f n v (added_less rules rs (adding rules r f) n v h)

narrowed_less : (image : Image) (f : Fact) (n : Location) (v : ℕ) → (narrowed image f).set n v ≡ true → f.set n v ≡ true
unfolding narrowed
narrowed_less image f n v h =
    added_less OfSums (flat_map (λ (r : Relation). parts_of image f r.sum r.set) f.relations ++ flat_map (λ (c : Chain). parts_of_chain f c) f.chains)
    (record f { link = λ l. f.link l && list_all (λ (c : Chain). links_of_chain f c l) f.chains }) n v h

-- a set as it stands shows what it is when narrowed
pub known_less : (pl : Place) (f : Fact) (n : Location) (v : ℕ) → words_known pl f n v ≡ true → f.set n v ≡ true
known_less pl f n v = go pl.rules
  where
    go : (rules : Rules) → words_by rules pl.image f n v ≡ true → f.set n v ≡ true
    go OfSums h = h
    go OfEquations h = narrowed_less pl.image f n v h

pub known_inside : (pl : Place) (f : Fact) (n : Location) (s : Words) → IsWithin (f.set n) s → IsWithin (words_known pl f n) s
known_inside pl f n s w v lt h = w v lt (known_less pl f n v h)

-- two relations of one sum and the same words
same_name_self : (n : Location) → same n n ≡ true
same_name_self Ac = refl
same_name_self (Cell a) = eq-eqb a a refl

same_term_self : (t : Term) → same_term t t ≡ true
same_term_self (Holding n) = same_name_self n
same_term_self (Behind x k) = and_from _ _ (eq-eqb x x refl) (eq-eqb k k refl)

same_sum_self : (s : Sum) → same_sum s s ≡ true
same_sum_self [] = refl
same_sum_self (s ∷ ss) = and_from _ _ (eq-eqb s.coefficient s.coefficient refl) (and_from _ _ (same_term_self s.term) (same_sum_self ss))

summand_is : (s t : Summand) → s.coefficient ≡ t.coefficient → s.term ≡ t.term → s ≡ t
summand_is s t c e = ap (λ x. record { coefficient = x; term = s.term }) c ∙ ap (λ x. record { coefficient = t.coefficient; term = x }) e

pub one_sum : (s t : Sum) → same_sum s t ≡ true → s ≡ t
one_sum [] [] h = refl
one_sum [] (t ∷ ts) h = absurd (false≢true h)
one_sum (s ∷ ss) [] h = absurd (false≢true h)
one_sum (s ∷ ss) (t ∷ ts) h =
    let p = and_parts (s.coefficient == t.coefficient) _ h in
    let q = and_parts (same_term s.term t.term) _ p.1 in
    ap (λ x. x ∷ ss) (summand_is s t (eqb-true s.coefficient t.coefficient p.0) (same_is s.term t.term q.0)) ∙ ap (λ xs. t ∷ xs) (one_sum ss ts q.1)

pub same_sums : (s t : Sum) → s ≡ t → same_sum s t ≡ true
same_sums s t e = subst (λ x. same_sum s x ≡ true) e (same_sum_self s)

-- a relation among others
abbrev pub IsOne : Relation → Relation → Type 0
IsOne r g = (g.sum ≡ r.sum) × SameWords g.set r.set

-- the one at a place
pub among_at : {A : Type 0} (f : A → Relation) (r : Relation) (xs : List A) (i : ℕ) (x : A) → i < length xs → x ≡ get_or xs i x → IsOne r (f x) → Among r (map f xs)
among_at f r [] i x lt e w = absurd (omega arith)
among_at f r (y ∷ ys) zero x lt e w = inl (subst (λ z. IsOne r (f z)) e w)
among_at f r (y ∷ ys) (suc i) x lt e w = inr (among_at f r ys i x (omega arith) e w)

-- one that is another one leaves those behind it
pub among_behind : {A : Type 0} (f : A → Relation) (r : Relation) (xs : List A) (i : ℕ) (x : A) → i < length xs → x ≡ get_or xs i x → (IsOne r (f x) → ⊥) →
    Among r (map f (drop i xs)) → Among r (map f (drop (i + 1) xs))
among_behind f r xs i x lt e w h = behind (subst (λ ys. Among r (map f ys)) (drop_item xs i x lt e) h)
  where
    behind : IsOne r (f x) ⊎ Among r (map f (drop (i + 1) xs)) → Among r (map f (drop (i + 1) xs))
    behind (inl one) = absurd (w one)
    behind (inr rest) = rest

-- past the last one there is none
pub among_none : {A : Type 0} (f : A → Relation) (r : Relation) (xs : List A) (i : ℕ) → length xs ≤ i → Among r (map f (drop i xs)) → ⊥
among_none f r xs i le h = subst (λ ys. Among r (map f ys)) (drop_of_length-le xs le) h

-- what each relation, entry and chain of a list is asked
pub within_step : {A : Type 0} (f : A → TrackedCell) (pl : Place) (a : Fact) (xs : List A) (i : ℕ) (x : A) → i < length xs → x ≡ get_or xs i x →
    IsWithin (words_known pl a (Cell (f x).address)) (f x).set →
    (EachWithin pl a (map f (drop i xs)) ↔ EachWithin pl a (map f xs)) → EachWithin pl a (map f (drop (i + 1) xs)) ↔ EachWithin pl a (map f xs)
within_step f pl a xs i x lt e w h = each_step f (EachWithin pl a) (λ t. IsWithin (words_known pl a (Cell t.address)) t.set) (λ b bs k. k) (λ b bs k. k) xs i x lt e w h

pub within_fails : {A : Type 0} (f : A → TrackedCell) (pl : Place) (a : Fact) (xs : List A) (i : ℕ) (x : A) → i < length xs → x ≡ get_or xs i x →
    (IsWithin (words_known pl a (Cell (f x).address)) (f x).set → ⊥) →
    (EachWithin pl a (map f (drop i xs)) ↔ EachWithin pl a (map f xs)) → IsTrue false ↔ EachWithin pl a (map f xs)
within_fails f pl a xs i x lt e w h = each_fails f (EachWithin pl a) (λ t. IsWithin (words_known pl a (Cell t.address)) t.set) (λ b bs k. k) xs i x lt e w h

pub known_step : {A : Type 0} (f : A → Relation) (pl : Place) (a : Fact) (xs : List A) (i : ℕ) (x : A) → i < length xs → x ≡ get_or xs i x → KnowsBy pl.rules pl a (f x) →
    (KnowsAll pl a (map f (drop i xs)) ↔ KnowsAll pl a (map f xs)) → KnowsAll pl a (map f (drop (i + 1) xs)) ↔ KnowsAll pl a (map f xs)
known_step f pl a xs i x lt e w h = each_step f (KnowsAll pl a) (KnowsBy pl.rules pl a) (λ b bs k. k) (λ b bs k. k) xs i x lt e w h

pub known_fails : {A : Type 0} (f : A → Relation) (pl : Place) (a : Fact) (xs : List A) (i : ℕ) (x : A) → i < length xs → x ≡ get_or xs i x → (KnowsBy pl.rules pl a (f x) → ⊥) →
    (KnowsAll pl a (map f (drop i xs)) ↔ KnowsAll pl a (map f xs)) → IsTrue false ↔ KnowsAll pl a (map f xs)
known_fails f pl a xs i x lt e w h = each_fails f (KnowsAll pl a) (KnowsBy pl.rules pl a) (λ b bs k. k) xs i x lt e w h

pub chain_step : {A : Type 0} (f : A → Chain) (pl : Place) (a : Fact) (xs : List A) (i : ℕ) (x : A) → i < length xs → x ≡ get_or xs i x → ShowsChain pl a (f x) →
    (ShowsChains pl a (map f (drop i xs)) ↔ ShowsChains pl a (map f xs)) → ShowsChains pl a (map f (drop (i + 1) xs)) ↔ ShowsChains pl a (map f xs)
chain_step f pl a xs i x lt e w h = each_step f (ShowsChains pl a) (ShowsChain pl a) (λ b bs k. k) (λ b bs k. k) xs i x lt e w h

pub chain_fails : {A : Type 0} (f : A → Chain) (pl : Place) (a : Fact) (xs : List A) (i : ℕ) (x : A) → i < length xs → x ≡ get_or xs i x → (ShowsChain pl a (f x) → ⊥) →
    (ShowsChains pl a (map f (drop i xs)) ↔ ShowsChains pl a (map f xs)) → IsTrue false ↔ ShowsChains pl a (map f xs)
chain_fails f pl a xs i x lt e w h = each_fails f (ShowsChains pl a) (ShowsChain pl a) (λ b bs k. k) xs i x lt e w h

abbrev pub GivesOn : ℕ → ℕ → ℕ → ℕ → Chain → Type 0
GivesOn x v w l c = c.cell ≡ x → gives c v w l ≡ true

pub gives_step : {A : Type 0} (f : A → Chain) (x v w l : ℕ) (xs : List A) (i : ℕ) (c : A) → i < length xs → c ≡ get_or xs i c → GivesOn x v w l (f c) →
    (EachGives x v w l (map f (drop i xs)) ↔ EachGives x v w l (map f xs)) → EachGives x v w l (map f (drop (i + 1) xs)) ↔ EachGives x v w l (map f xs)
gives_step f x v w l xs i c lt e g h = each_step f (EachGives x v w l) (GivesOn x v w l) (λ b bs k. k) (λ b bs k. k) xs i c lt e g h

pub gives_fails : {A : Type 0} (f : A → Chain) (x v w l : ℕ) (xs : List A) (i : ℕ) (c : A) → i < length xs → c ≡ get_or xs i c → (GivesOn x v w l (f c) → ⊥) →
    (EachGives x v w l (map f (drop i xs)) ↔ EachGives x v w l (map f xs)) → IsTrue false ↔ EachGives x v w l (map f xs)
gives_fails f x v w l xs i c lt e g h = each_fails f (EachGives x v w l) (GivesOn x v w l) (λ b bs k. k) xs i c lt e g h

-- No chain before this place is on the cell: what is asked of those from there on is asked of all.
abbrev pub NoneBefore : {A : Type 0} → (A → Chain) → ℕ → ℕ → List A → Type 0
NoneBefore f x i xs = (v w l : ℕ) → EachGives x v w l (map f (drop i xs)) ↔ EachGives x v w l (map f xs)

pub none_before : {A : Type 0} (f : A → Chain) (x : ℕ) (xs : List A) (i : ℕ) (c : A) → i < length xs → c ≡ get_or xs i c → ((f c).cell ≡ x → ⊥) → NoneBefore f x i xs → NoneBefore f x (i + 1) xs
none_before f x xs i c lt e other h v w l = gives_step f x v w l xs i c lt e (λ same. absurd (other same)) (h v w l)

or_either : (a b : Bool) → (a || b) ≡ true → (a ≡ true) ⊎ (b ≡ true)
or_either true b h = inl refl
or_either false b h = inr h

or_second : (a b : Bool) → b ≡ true → (a || b) ≡ true
or_second true b h = refl
or_second false b h = h

or_first : (a b : Bool) → a ≡ true → (a || b) ≡ true
or_first true b h = refl
or_first false b h = absurd (false≢true h)

from_either : (test : ℕ → Bool) → some_below 2 test ≡ true → (test 1 ≡ true) ⊎ (test 0 ≡ true)
from_either test h = or_either (test 1) (test 0) (two_links test ∙ h)

from_first : (test : ℕ → Bool) → test 1 ≡ true → some_below 2 test ≡ true
from_first test h = sym (two_links test) ∙ or_first (test 1) (test 0) h

from_second : (test : ℕ → Bool) → test 0 ≡ true → some_below 2 test ≡ true
from_second test h = sym (two_links test) ∙ or_second (test 1) (test 0) h

-- pairs that are allowed
module _ (accumulators links : Words) (own : List Chain) (c : Chain) (v : ℕ) where
  abbrev pub Allows : ℕ → ℕ → Type 0
  Allows w l = GivesIfAllowed accumulators links own c v w l

  pub no_accumulator : (w l : ℕ) → accumulators w ≡ false → IsTrue true ↔ Allows w l
  no_accumulator w l e = (λ t a. absurd (true≢false (sym a ∙ e)), λ k. refl)

  pub no_link : (w l : ℕ) → links l ≡ false → IsTrue true ↔ Allows w l
  no_link w l e = (λ t a k. absurd (true≢false (sym k ∙ e)), λ k. refl)

  pub gives_it : (w l : ℕ) → gives c v w l ≡ true → IsTrue true ↔ Allows w l
  gives_it w l e = (λ t a k each. e, λ k. refl)

  pub allowed_not_given : (w l : ℕ) → accumulators w ≡ true → links l ≡ true → gives c v w l ≡ false → EachGives c.cell v w l own → IsTrue false ↔ Allows w l
  allowed_not_given w l a k e each = not_true (λ h. true≢false (sym (h a k each) ∙ e))

  pub not_each_given : (w l : ℕ) → (EachGives c.cell v w l own → ⊥) → IsTrue true ↔ Allows w l
  not_each_given w l none = (λ t a k each. absurd (none each), λ h. refl)

  -- both links
  pub each_link : (p : ℕ → Type 0) → p 0 → p 1 → (l : ℕ) → l < 2 → p l
  each_link p clear one l lt = elim (cases_eq l 0) [
    | inl e ↦ subst p (sym e) clear
    | inr n ↦ (let e : l ≡ 1 = omega (arith, n) in subst p (sym e) one)
  ]

  pub by_accumulators : ((w : ℕ) → w < 4096 → accumulators w ≡ true → (l : ℕ) → l < 2 → Allows w l) → GivesAllowed accumulators links own c v
  by_accumulators h w l lw ll a = h w lw a l ll a

  pub to_accumulators : GivesAllowed accumulators links own c v → (w : ℕ) → w < 4096 → accumulators w ≡ true → (l : ℕ) → l < 2 → Allows w l
  to_accumulators h w lw a l ll = h w l lw ll

  -- by another chain on the cell
  pub from_none : (other : Chain) (k : ℕ) → other.link k ≡ false → IsTrue true ↔ ((w l : ℕ) → gives_from other k v w l ≡ true → Allows w l)
  from_none other k none = (λ t w l h. absurd (true≢false (sym (and_parts _ _ h).0 ∙ none)), λ h. refl)

  pub from_pair : (b : Bool) (other : Chain) (k w l : ℕ) → other.link k ≡ true → (w, l) ≡ after_steps other.steps (plus v other.more, k) →
      (IsTrue b ↔ Allows w l) → IsTrue b ↔ ((x y : ℕ) → gives_from other k v x y ≡ true → Allows x y)
  from_pair b other k w l has made h = (
    λ t x y g. (let p = and_parts _ _ (and_parts (other.link k) _ g).1 in
        let ex : w ≡ x = ap (λ (s : ℕ × ℕ). s.0) made ∙ eqb-true _ x p.0 in let ey : l ≡ y = ap (λ (s : ℕ × ℕ). s.1) made ∙ eqb-true _ y p.1 in
        subst (λ z. Allows x z) ey (subst (λ z. Allows z l) ex (h.0 t))),
    λ all. h.1 (all w l (and_from _ _ has (and_from _ _ (eq-eqb _ w (sym (ap (λ (s : ℕ × ℕ). s.0) made))) (eq-eqb _ l (sym (ap (λ (s : ℕ × ℕ). s.1) made)))))),
  )

  pub by_first_fails : (other : Chain) → (((w l : ℕ) → gives_from other 0 v w l ≡ true → Allows w l) → ⊥) → IsTrue false ↔ ((w l : ℕ) → gives other v w l ≡ true → Allows w l)
  by_first_fails other not = not_true (λ all. not (λ w l g. all w l (from_second (λ k. gives_from other k v w l) g)))

  pub by_both : (b : Bool) (other : Chain) → ((w l : ℕ) → gives_from other 0 v w l ≡ true → Allows w l) → (IsTrue b ↔ ((w l : ℕ) → gives_from other 1 v w l ≡ true → Allows w l)) →
      IsTrue b ↔ ((w l : ℕ) → gives other v w l ≡ true → Allows w l)
  by_both b other first second = (
    λ t w l g. elim (from_either (λ k. gives_from other k v w l) g) [ inl one ↦ second.0 t w l one | inr clear ↦ first w l clear ],
    λ all. second.1 (λ w l g. all w l (from_first (λ k. gives_from other k v w l) g)),
  )

  pub word_by : (b : Bool) (other : Chain) → ((w : ℕ) → accumulators w ≡ true → w < 4096) → ((l : ℕ) → links l ≡ true → l < 2) →
      ((w l : ℕ) → EachGives c.cell v w l own → GivesOn c.cell v w l other) → other.cell ≡ c.cell →
      (IsTrue b ↔ ((w l : ℕ) → gives other v w l ≡ true → Allows w l)) → IsTrue b ↔ GivesAllowed accumulators links own c v
  word_by b other words two member same h = (
    λ t w l lw ll a k each. h.0 t w l (member w l each same) a k each,
    λ all. h.1 (λ w l given a k each. all w l (words w a) (two l k) a k each),
  )

pub on_item : {A : Type 0} (f : A → Chain) (x : ℕ) (xs : List A) (i : ℕ) (c : A) → i < length xs → c ≡ get_or xs i c → NoneBefore f x i xs →
    (v w l : ℕ) → EachGives x v w l (map f xs) → GivesOn x v w l (f c)
on_item f x xs i c lt e h v w l each = (subst (λ ys. EachGives x v w l (map f ys)) (drop_item xs i c lt e) ((h v w l).1 each)).0

pub words_small : (lanes : List ℕ) (w : ℕ) → words lanes w ≡ true → w < 4096
words_small lanes w h = elim (cases_lt w 4096) [ inl lt ↦ lt | inr g ↦ absurd (true≢false (sym h ∙ words_past lanes w g)) ]

pub links_small : (links : Links) (l : ℕ) → links_of links l ≡ true → l < 2
links_small links l h = elim (cases_eq l 0) [
  | inl e ↦ omega (arith, e)
  | inr n ↦ elim (cases_eq l 1) [ inl e ↦ omega (arith, e) | inr m ↦ absurd (false≢true (sym (past (l == 0) (l == 1) (ne_eqb l 0 n) (ne_eqb l 1 m)) ∙ h)) ]
]
  where
    past : (p q : Bool) → p ≡ false → q ≡ false → (if p then links.clear else (if q then links.set else false)) ≡ false
    past false false e f = refl
    past true q e f = absurd (true≢false e)
    past false true e f = absurd (true≢false f)

-- what a fact says of a sum of several terms is within what its own relations say of it
pub said_given : (image : Image) (f : Fact) (sum : Sum) → 2 ≤ length sum → (v : ℕ) → said_of image f sum v ≡ true → set_of_sum f sum v ≡ true
unfolding said_of
said_given image f [] lt v h = absurd (omega (arith, lt))
said_given image f (s ∷ []) lt v h = absurd (omega (arith, lt))
said_given image f (s ∷ t ∷ ts) lt v h = (and_parts _ _ h).0

-- sets that are the same by two names
pub links_as : (a b c d : Words) → a ≡ c → b ≡ d → IsLinkWithin c d → IsLinkWithin a b
links_as a b c d e f h = subst (λ (s : Words). IsLinkWithin a s) (sym f) (subst (λ (s : Words). IsLinkWithin s d) (sym e) h)

pub within_as : (a b c d : Words) → a ≡ c → b ≡ d → IsWithin c d → IsWithin a b
within_as a b c d e f h = subst (λ (s : Words). IsWithin a s) (sym f) (subst (λ (s : Words). IsWithin s d) (sym e) h)

abbrev pub HasOffsetsOf : Words → Words → Type 0
HasOffsetsOf a b = (o : ℕ) → o < 64 → a o ≡ true → b o ≡ true

pub offsets_as : (a b c d : Words) → a ≡ c → b ≡ d → HasOffsetsOf c d → HasOffsetsOf a b
offsets_as a b c d e f h = subst (λ (s : Words). HasOffsetsOf a s) (sym f) (subst (λ (s : Words). HasOffsetsOf s d) (sym e) h)

-- the registers, each by the sets that were compared
module _ (pl : Place) (a b : Fact) where
  pub registers_not_link : (s t : Words) → s ≡ a.link → t ≡ b.link → (IsLinkWithin s t → ⊥) → IsTrue false ↔ EntailsRegisters pl a b
  registers_not_link s t e f not = not_true (λ r. not (links_as s t a.link b.link e f r.link))

  pub registers_not_offsets : (s t : Words) → s ≡ a.offsets → t ≡ b.offsets → (HasOffsetsOf s t → ⊥) → IsTrue false ↔ EntailsRegisters pl a b
  registers_not_offsets s t e f not = not_true (λ r. not (offsets_as s t a.offsets b.offsets e f r.offsets))

  pub registers_not_mq : (s t : Words) → s ≡ a.mq → t ≡ b.mq → (IsWithin s t → ⊥) → IsTrue false ↔ EntailsRegisters pl a b
  registers_not_mq s t e f not = not_true (λ r. not (within_as s t a.mq b.mq e f r.mq))

  pub registers_not_sites : (s t : Words) → s ≡ a.sites → t ≡ b.sites → (IsWithin s t → ⊥) → IsTrue false ↔ EntailsRegisters pl a b
  registers_not_sites s t e f not = not_true (λ r. not (within_as s t a.sites b.sites e f r.sites))

  pub registers_iff : (x : Bool) (ls lt os ot ms mt ss st ac : Words) → ls ≡ a.link → lt ≡ b.link → os ≡ a.offsets → ot ≡ b.offsets → ms ≡ a.mq → mt ≡ b.mq → ss ≡ a.sites → st ≡ b.sites → ac ≡ b.set Ac →
      IsLinkWithin ls lt → HasOffsetsOf os ot → IsWithin ms mt → IsWithin ss st → (IsTrue x ↔ IsWithin (words_known pl a Ac) ac) → IsTrue x ↔ EntailsRegisters pl a b
  registers_iff x ls lt os ot ms mt ss st ac els elt eos eot ems emt ess est eac l o m s h = (
    λ t. record {
      ac = subst (λ (w : Words). IsWithin (words_known pl a Ac) w) eac (h.0 t);
      mq = within_as a.mq b.mq ms mt (sym ems) (sym emt) m;
      link = links_as a.link b.link ls lt (sym els) (sym elt) l;
      sites = within_as a.sites b.sites ss st (sym ess) (sym est) s;
      offsets = offsets_as a.offsets b.offsets os ot (sym eos) (sym eot) o;
    },
    λ r. h.1 (subst (λ (w : Words). IsWithin (words_known pl a Ac) w) (sym eac) r.ac),
  )

-- an entry among others
pub entry_here : {A : Type 0} (f : A → TrackedCell) (a : ℕ) (xs : List A) (i : ℕ) (x : A) → i < length xs → x ≡ get_or xs i x → (f x).address ≡ a →
    (v : ℕ) → tracked a (map f (drop i xs)) v ≡ true → (f x).set v ≡ true
entry_here f a xs i x lt e same v h =
    let p = and_parts (if (f x).address == a then (f x).set v else true) (tracked a (map f (drop (i + 1) xs)) v) (subst (λ ys. tracked a (map f ys) v ≡ true) (drop_item xs i x lt e) h) in
    let q : ((f x).address == a) ≡ true = eq-eqb (f x).address a same in
    subst (λ b. (if b then (f x).set v else true) ≡ true) q p.0

pub entry_at : {A : Type 0} (f : A → TrackedCell) (a : ℕ) (xs : List A) (i : ℕ) (x : A) → i < length xs → x ≡ get_or xs i x → (f x).address ≡ a →
    (v : ℕ) → tracked a (map f xs) v ≡ true → (f x).set v ≡ true
entry_at f a [] i x lt e same v h = absurd (omega arith)
entry_at f a (y ∷ ys) zero x lt e same v h = entry_here f a (y ∷ ys) 0 x lt e same v h
entry_at f a (y ∷ ys) (suc i) x lt e same v h = entry_at f a ys i x (omega arith) e same v (and_parts (if (f y).address == a then (f y).set v else true) (tracked a (map f ys) v) h).1

pub entry_passed : {A : Type 0} (f : A → TrackedCell) (a : ℕ) (xs : List A) (i : ℕ) (x : A) → i < length xs → x ≡ get_or xs i x →
    (v : ℕ) → tracked a (map f (drop i xs)) v ≡ true → tracked a (map f (drop (i + 1) xs)) v ≡ true
entry_passed f a xs i x lt e v h =
    (and_parts (if (f x).address == a then (f x).set v else true) (tracked a (map f (drop (i + 1) xs)) v) (subst (λ ys. tracked a (map f ys) v ≡ true) (drop_item xs i x lt e) h)).1

-- all parts together
pub entails_iff : (pl : Place) (a b : Fact) (ac : Words) (cells : List TrackedCell) (t : Bool) → names_words ac cells ≡ b.set → EntailsRegisters pl a b → EachWithin pl a cells → KnowsAll pl a b.relations →
    (IsTrue t ↔ ShowsChains pl a b.chains) → IsTrue t ↔ Entails pl a b
entails_iff pl a b ac cells t same registers each know chains = (
  λ q. record { sets = sets; mq = registers.mq; link = registers.link; relations = know; chains = chains.0 q; sites = registers.sites; offsets = registers.offsets },
  λ e. chains.1 e.chains,
)
  where
    sets : (n : Location) → IsWithin (words_known pl a n) (b.set n)
    sets Ac = registers.ac
    sets (Cell x) = subst (λ (s : Location → Words). IsWithin (words_known pl a (Cell x)) (s (Cell x))) same (each_tracked pl a cells each x)

pub entails_cells : (pl : Place) (a b : Fact) (ac : Words) (cells : List TrackedCell) → names_words ac cells ≡ b.set → Entails pl a b → EachWithin pl a cells
entails_cells pl a b ac cells same e = tracked_each pl a cells (λ x. subst (λ (s : Location → Words). IsWithin (words_known pl a (Cell x)) (s (Cell x))) (sym same) (e.sets (Cell x)))

pub entails_registers : (pl : Place) (a b : Fact) → Entails pl a b → EntailsRegisters pl a b
entails_registers pl a b e = record { ac = e.sets Ac; mq = e.mq; link = e.link; sites = e.sites; offsets = e.offsets }
