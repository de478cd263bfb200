-- A fact holds of each state of a fact that entails it.
use Rattle.std.proofs.Common.{◌≡◌, ℕ, ◌+◌, ◌*◌, ◌-◌, ◌<◌, ◌≤◌, true, List, [], ◌∷◌, refl, sym, ◌∙◌, subst, inl, inr, arith, lit≤}
use Rattle.wordset.specs.Words.{plus, minus, IsWithin}
use Rattle.wordset.proofs.Firsts.{only_word}
use Rattle.processor.specs.Cells.{Cells}
use Rattle.policy.specs.Calls.{Calls}
use Rattle.domain.specs.Locations.{Location, Ac, Cell, Values, values}
use Rattle.domain.specs.Terms.{Sum, sum_value, difference_of}
use Rattle.domain.specs.Chains.{Chain, gives}
use Rattle.domain.specs.Facts.{Relation, Fact, Rules, OfEquations, OfSums, Place, IsTrueOf, AllTrue, AllGiven, Holds, last_site, StandsIn, OwnWord}
use Rattle.domain.specs.Knowing.{said_of}
use Rattle.domain.specs.Narrowing.{words_known}
use Rattle.domain.specs.Laws.{AreValues}
use Rattle.domain.proofs.SumLemmas.{val_lt}
use Rattle.domain.proofs.KnowingLemmas.{said_is_so}
use Rattle.domain.proofs.NarrowingLemmas.{values_are, known_is_so}
use Rattle.facts.specs.Entailment.{Among, ShowsDifference, KnowsBy, KnowsAll, EachGives, ShowsChains}
use Rattle.facts.specs.Laws.{EntailedFactsHold}

difference_number : (a b : ℕ) → a < 4096 → b < 4096 → plus (1 * a) (plus (4095 * b) 0) ≡ minus a b
difference_number a b la lb = omega arith

pub difference_value : (v : Values) (start : Cells) (m n : Location) → AreValues v → sum_value v start (difference_of m n) ≡ minus (v m) (v n)
difference_value v start m n ws = difference_number (v m) (v n) (ws m) (ws n)

-- relations
among_true : (v : Values) (start : Cells) (r : Relation) (gs : List Relation) → AllTrue v start gs → Among r gs → IsTrueOf v start r
among_true v start r [] t m = absurd m
among_true v start r (g ∷ gs) t m = elim m [
  | inl q ↦ sym (q.1 (sum_value v start r.sum) (val_lt v start r.sum)) ∙ subst (λ x. g.set (sum_value v start x) ≡ true) q.0 t.0
  | inr q ↦ among_true v start r gs t.1 q
]

module _ (pl : Place) (start : Cells) (f : Fact) (v : Values) (ws : AreValues v) (known : (n : Location) → words_known pl f n (v n) ≡ true) where
  shown_true : (r : Relation) → ShowsDifference pl f r → IsTrueOf v start r
  shown_true r d =
      let m : Location = d.0 in
      let n : Location = d.1 in
      let left : v m ≡ d.2 = (only_word (words_known pl f m) d.2 d.5).lone (v m) (ws m) (known m) in
      let right : v n ≡ d.3 = (only_word (words_known pl f n) d.3 d.6).lone (v n) (ws n) (known n) in
      let value : sum_value v start (difference_of m n) ≡ minus d.2 d.3 = difference_value v start m n ws ∙ (rw (left, right) refl) in
      subst (λ x. r.set (sum_value v start x) ≡ true) (sym d.4) (subst (λ x. r.set x ≡ true) (sym value) d.7)

  known_by : (link : ℕ) → Holds f v start link → ((sum : Sum) → said_of pl.image f sum (sum_value v start sum) ≡ true) → (r : Relation) → KnowsBy pl.rules pl f r → IsTrueOf v start r
  known_by link h said r = go pl.rules
    where
      go : (rules : Rules) → KnowsBy rules pl f r → IsTrueOf v start r
      go OfSums k = k (sum_value v start r.sum) (val_lt v start r.sum) (said r.sum)
      go OfEquations k = elim k [ inl m ↦ among_true v start r f.relations h.relations m | inr d ↦ shown_true r d ]

  known_all : (link : ℕ) → Holds f v start link → ((sum : Sum) → said_of pl.image f sum (sum_value v start sum) ≡ true) → (rs : List Relation) → KnowsAll pl f rs → AllTrue v start rs
  known_all link h said [] k = tt
  known_all link h said (r ∷ rs) k = (known_by link h said r k.0, known_all link h said rs k.1)

  -- chains
  each_gives : (link x : ℕ) (cs : List Chain) → AllGiven v link cs → EachGives x (v (Cell x)) (v Ac) link cs
  each_gives link x [] t = tt
  each_gives link x (c ∷ cs) t = (λ e. subst (λ y. gives c (v (Cell y)) (v Ac) link ≡ true) e t.0, each_gives link x cs t.1)

  given_all : (link : ℕ) → link < 2 → f.link link ≡ true → AllGiven v link f.chains → (cs : List Chain) → ShowsChains pl f cs → AllGiven v link cs
  given_all link lt l own [] shown = tt
  given_all link lt l own (c ∷ cs) shown = (
    shown.0 (v (Cell c.cell)) (v Ac) link (ws (Cell c.cell)) (ws Ac) lt (known (Cell c.cell)) (known Ac) l (each_gives link c.cell f.chains own),
    given_all link lt l own cs shown.1,
  )

-- sites and offsets
last_word : (rules : Rules) → last_site rules ≤ 4094
last_word OfEquations = lit≤ tt
last_word OfSums = lit≤ tt

stands_within : (pl : Place) (f g : Fact) (ks : Calls) → IsWithin f.sites g.sites → StandsIn pl f ks → StandsIn pl g ks
stands_within pl f g [] within h = h
stands_within pl f g (k ∷ ks) within h =
    let last : last_site pl.rules ≤ 4094 = last_word pl.rules in
    let low : k.after ≤ last_site pl.rules + 1 = h.2 in
    (h.0, h.1, h.2, within (k.after - 1) (omega arith) h.3)

own_within : (f g : Fact) (m : Cells) (ks : Calls) → ((o : ℕ) → o < 64 → f.offsets o ≡ true → g.offsets o ≡ true) → OwnWord f m ks → OwnWord g m ks
own_within f g m [] h o = tt
own_within f g m (k ∷ ks) h o = (o.0, o.1, h o.0 o.1 o.2, o.3)

-- The law.
pub entailed_facts_hold : EntailedFactsHold
entailed_facts_hold pl start f g s ks begun ss en h =
    let v : Values = values pl.declaration start s.ac s.memory in
    let ws : AreValues v = values_are pl.declaration start s.ac s.memory begun.words ss.words ss.ac in
    let known : (n : Location) → words_known pl f n (v n) ≡ true = λ n. known_is_so pl.rules pl.image start f v s.link n begun ws ss.link h.link h.holds in
    record {
      holds = record {
        sets = λ n. en.sets n (v n) (ws n) (known n);
        relations = known_all pl start f v ws known s.link h.holds (λ sum. said_is_so pl.image start f v s.link sum begun ws h.holds) g.relations en.relations;
        chains = given_all pl start f v ws known s.link ss.link h.link h.holds.chains g.chains en.chains;
      };
      mq = en.mq s.mq ss.mq h.mq;
      link = en.link s.link ss.link h.link;
      rest = h.rest;
      stands = stands_within pl f g ks en.sites h.stands;
      own = own_within f g s.memory ks en.offsets h.own;
    }
