-- Narrowing loses no state, and a void fact has none.
use Rattle.std.proofs.Common.{◌≡◌, ℕ, ◌-◌, ◌*◌, ◌%◌, ◌<◌, true, ◌&&◌, List, [], ◌∷◌, ◌++◌, refl, sym, ◌∙◌, ap, inl, inr, arith}
use Rattle.std.specs.Prelude.{flat_map}
use Rattle.std.specs.List.{list_all, list_any}
use Rattle.std.proofs.lemmas.Bool.{and_from, or_cases, cond_both, true≢false, not-true}
use Rattle.wordset.specs.Words.{plus, Words, some_below, has_some, has_link}
use Rattle.wordset.proofs.Tests.{some_from, IsSome, some_to}
use Rattle.processor.specs.Cells.{Cells, AreWords}
use Rattle.processor.specs.Machine.{State}
use Rattle.processor.specs.Runs.{Image}
use Rattle.declaration.specs.Declaration.{Declaration}
use Rattle.policy.specs.Calls.{Calls}
use Rattle.domain.specs.Locations.{Location, Ac, Cell, Values, values, tape_word}
use Rattle.domain.specs.Terms.{Term, Holding, Behind, Sum, term_value, sum_value, sum_of_name, difference_of}
use Rattle.domain.specs.Chains.{Chain}
use Rattle.domain.specs.Facts.{Relation, Fact, Place, OfEquations, OfSums, IsTrueOf, AllTrue, IsGiven, AllGiven, Holds, OwnWord, StandsIn, Means}
use Rattle.domain.specs.Adding.{differences, adding_all, lacks_all, is_void}
use Rattle.domain.specs.Knowing.{said_of}
use Rattle.domain.specs.Narrowing.{of_term, of_part, parts_of, may_give, parts_of_chain, links_of_chain, narrowed}
use Rattle.domain.specs.Laws.{IsBegun, AreValues, SameButSets, NarrowsTo, NarrowedIsSo, NarrowedHolds, AskedHolds, KnownIsSo, VoidNeverHolds}
use Rattle.domain.proofs.Numbers.{differences_in}
use Rattle.domain.proofs.SumLemmas.{val_lt}
use Rattle.domain.proofs.AddingLemmas.{name_val, all_append, all_added, adding_keeps}
use Rattle.domain.proofs.KnowingLemmas.{tape_in, said_in}

module _ (image : Image) (start : Cells) (begun : IsBegun image start) (v : Values) (vw : AreValues v) where
  abbrev pub val : Sum → ℕ
  val sum = sum_value v start sum

  name_sum : (n : Location) → val (sum_of_name n) ≡ v n
  name_sum n = name_val (v n) (vw n)

  -- one term
  term_true : (c : ℕ) (t : Term) (set : Words) → set (plus (c * term_value v start t) 0) ≡ true → IsTrueOf v start (of_term image c t set)
  term_true c (Holding n) set p = ap (λ x. set (c * x % 4096)) (name_sum n) ∙ (ap set (sym (alone (c * v n))) ∙ p)
    where
      alone : (x : ℕ) → plus x 0 ≡ x % 4096
      alone x = omega arith
  term_true c (Behind x k) set p =
      ap (λ u. some_below 4096 (λ w. tape_word (image (plus u k)) w && set (c * w % 4096))) (name_sum (Cell x)) ∙
      some_from 4096 (λ w. tape_word (image (plus (v (Cell x)) k)) w && set (c * w % 4096)) (start (plus (v (Cell x)) k)) (begun.words (plus (v (Cell x)) k))
      (and_from _ _ (tape_in image start begun v vw (plus (v (Cell x)) k)) (ap set (sym (alone (c * start (plus (v (Cell x)) k)))) ∙ p))
    where
      alone : (x : ℕ) → plus x 0 ≡ x % 4096
      alone x = omega arith

  part_true : (l : Sum) (set : Words) → set (val l) ≡ true → AllTrue v start (of_part image l set)
  part_true [] set p = tt
  part_true (s ∷ []) set p = (term_true s.coefficient s.term set p, tt)
  part_true (s ∷ t ∷ ts) set p = (p, tt)

  parts_true : (f : Fact) (link : ℕ) (l : Sum) (set : Words) → Holds f v start link → set (val l) ≡ true → AllTrue v start (parts_of image f l set)
  parts_true f link [] set h p = tt
  parts_true f link (s ∷ ss) set h p =
      all_append v start (of_part image (s ∷ []) (differences set (said_of image f ss))) (of_part image ss (differences set (said_of image f (s ∷ []))))
      (part_true (s ∷ []) (differences set (said_of image f ss))
      (differences_in set (said_of image f ss) (val (s ∷ ss)) (val ss) (val (s ∷ [])) (val_lt v start (s ∷ ss)) (val_lt v start ss) (val_lt v start (s ∷ []))
      (first (s.coefficient * term_value v start s.term) (val ss)) p (said_in image start begun v vw f link ss h)))
      (part_true ss (differences set (said_of image f (s ∷ [])))
      (differences_in set (said_of image f (s ∷ [])) (val (s ∷ ss)) (val (s ∷ [])) (val ss) (val_lt v start (s ∷ ss)) (val_lt v start (s ∷ [])) (val_lt v start ss)
      (second (s.coefficient * term_value v start s.term) (val ss)) p (said_in image start begun v vw f link (s ∷ []) h)))
    where
      first : (x r : ℕ) → plus (plus x 0) r ≡ plus x r
      first x r = omega arith

      second : (x r : ℕ) → plus r (plus x 0) ≡ plus x r
      second x r = omega arith

  all_parts : (f : Fact) (link : ℕ) (rs : List Relation) → Holds f v start link → AllTrue v start rs → AllTrue v start (flat_map (λ r. parts_of image f r.sum r.set) rs)
  all_parts f link [] h p = tt
  all_parts f link (r ∷ rs) h p =
      all_append v start (parts_of image f r.sum r.set) (flat_map (λ r. parts_of image f r.sum r.set) rs) (parts_true f link r.sum r.set h p.0) (all_parts f link rs h p.1)

  module _ (f : Fact) (link : ℕ) (small : link < 2) (allowed : f.link link ≡ true) (h : Holds f v start link) where
    may : (c : Chain) → IsGiven v link c → may_give f c (v (Cell c.cell)) (v Ac) link ≡ true
    may c g = and_from _ _ (h.sets (Cell c.cell)) (and_from _ _ (h.sets Ac) (and_from _ _ allowed g))

    chain_parts : (c : Chain) → IsGiven v link c → AllTrue v start (parts_of_chain f c)
    chain_parts c g = (cell, (ac, (between, tt)))
      where
        x : ℕ
        x = v (Cell c.cell)

        cell : some_below 4096 (λ w. some_below 2 (λ l. may_give f c (val (sum_of_name (Cell c.cell))) w l)) ≡ true
        cell =
            ap (λ u. some_below 4096 (λ w. some_below 2 (λ l. may_give f c u w l))) (name_sum (Cell c.cell)) ∙
            some_from 4096 (λ w. some_below 2 (λ l. may_give f c x w l)) (v Ac) (vw Ac) (some_from 2 (λ l. may_give f c x (v Ac) l) link small (may c g))

        ac : some_below 4096 (λ u. some_below 2 (λ l. may_give f c u (val (sum_of_name Ac)) l)) ≡ true
        ac =
            ap (λ w. some_below 4096 (λ u. some_below 2 (λ l. may_give f c u w l))) (name_sum Ac) ∙
            some_from 4096 (λ u. some_below 2 (λ l. may_give f c u (v Ac) l)) x (vw (Cell c.cell)) (some_from 2 (λ l. may_give f c x (v Ac) l) link small (may c g))

        back : (u a : ℕ) → u < 4096 → a < 4096 → plus u (plus (1 * a) (plus (4095 * u) 0)) ≡ a
        back u a h g = omega arith

        between : some_below 4096 (λ u. some_below 2 (λ l. may_give f c u (plus u (val (difference_of Ac (Cell c.cell)))) l)) ≡ true
        between =
            some_from 4096 (λ u. some_below 2 (λ l. may_give f c u (plus u (val (difference_of Ac (Cell c.cell)))) l)) x (vw (Cell c.cell))
            (some_from 2 (λ l. may_give f c x (plus x (val (difference_of Ac (Cell c.cell)))) l) link small
            (ap (λ w. may_give f c x w link) (back x (v Ac) (vw (Cell c.cell)) (vw Ac)) ∙ may c g))

    all_chain_parts : (cs : List Chain) → AllGiven v link cs → AllTrue v start (flat_map (λ c. parts_of_chain f c) cs)
    all_chain_parts [] g = tt
    all_chain_parts (c ∷ cs) g = all_append v start (parts_of_chain f c) (flat_map (λ c. parts_of_chain f c) cs) (chain_parts c g.0) (all_chain_parts cs g.1)

    link_given : (cs : List Chain) → AllGiven v link cs → list_all (λ c. links_of_chain f c link) cs ≡ true
    link_given [] g = refl
    link_given (c ∷ cs) g =
        and_from _ _
        (some_from 4096 (λ u. some_below 4096 (λ w. may_give f c u w link)) (v (Cell c.cell)) (vw (Cell c.cell))
        (some_from 4096 (λ w. may_give f c (v (Cell c.cell)) w link) (v Ac) (vw Ac) (may c g.0)))
        (link_given cs g.1)

    pub narrows : NarrowsTo image start f v link
    unfolding narrowed
    narrows =
        let before : Fact = record f { link = λ l. f.link l && list_all (λ c. links_of_chain f c l) f.chains } in
        let parts : List Relation = flat_map (λ r. parts_of image f r.sum r.set) f.relations ++ flat_map (λ c. parts_of_chain f c) f.chains in
        let same : SameButSets before (adding_all OfSums parts before) = adding_keeps OfSums parts before in
        record {
          holds = all_added v start begun.words vw OfSums before link parts (record { sets = h.sets; relations = h.relations; chains = h.chains })
              (all_append v start (flat_map (λ r. parts_of image f r.sum r.set) f.relations) (flat_map (λ c. parts_of_chain f c) f.chains) (all_parts f link f.relations h h.relations) (all_chain_parts f.chains h.chains));
          links = ap (λ (s : Words). s link) same.link ∙ and_from _ _ allowed (link_given f.chains h.chains);
          mq = same.mq;
          sites = same.sites;
          offsets = same.offsets;
        }

pub values_are : (d : Declaration) (start : Cells) (ac : ℕ) (memory : Cells) → AreWords start → AreWords memory → ac < 4096 → AreValues (values d start ac memory)
values_are d start ac memory sw mw small Ac = small
values_are d start ac memory sw mw small (Cell a) = cond_both (d.variable a) (memory a) (start a) (λ x. x < 4096) (λ e. mw a) (λ e. sw a)

-- a fact that says more of the names, and of the rest what another one says
pub means_as : (pl : Place) (start : Cells) (f g : Fact) (s : State) (ks : Calls) → Holds g (values pl.declaration start s.ac s.memory) start s.link → g.link s.link ≡ true →
    g.mq ≡ f.mq → g.sites ≡ f.sites → g.offsets ≡ f.offsets → Means pl start f s ks → Means pl start g s ks
means_as pl start f g s ks h l mq sites offsets m = record {
  holds = h;
  mq = ap (λ (x : Words). x s.mq) mq ∙ m.mq;
  link = l;
  rest = m.rest;
  stands = stands ks m.stands;
  own = own ks m.own;
}
  where
    stands : (ks : Calls) → StandsIn pl f ks → StandsIn pl g ks
    stands [] e = e
    stands (k ∷ ks) e = (e.0, e.1, e.2, ap (λ (x : Words). x (k.after - 1)) sites ∙ e.3)

    own : (ks : Calls) → OwnWord f s.memory ks → OwnWord g s.memory ks
    own [] e = tt
    own (k ∷ ks) e = (e.0, e.1, ap (λ (x : Words). x e.0) offsets ∙ e.2, e.3)

pub narrowed_is_so : NarrowedIsSo
narrowed_is_so image start f v link begun vw small allowed h = narrows image start begun v vw f link small allowed h

pub narrowed_holds : NarrowedHolds
narrowed_holds pl start f s ks begun mw ac link m =
    let n : NarrowsTo pl.image start f (values pl.declaration start s.ac s.memory) s.link =
    narrows pl.image start begun (values pl.declaration start s.ac s.memory) (values_are pl.declaration start s.ac s.memory begun.words mw ac) f s.link link m.link m.holds in
    means_as pl start f (narrowed pl.image f) s ks n.holds n.links n.mq n.sites n.offsets m

pub asked_holds : AskedHolds
asked_holds pl OfSums start f s ks begun mw ac link m = narrowed_holds pl start f s ks begun mw ac link m
asked_holds pl OfEquations start f s ks begun mw ac link m = m

pub known_is_so : KnownIsSo
known_is_so OfSums image start f v link n begun vw small allowed h = h.sets n
known_is_so OfEquations image start f v link n begun vw small allowed h =
    let to : NarrowsTo image start f v link = narrows image start begun v vw f link small allowed h in
    to.holds.sets n

-- a set with a word is not empty
not_lacking : (set : Words) (x : ℕ) → x < 4096 → set x ≡ true → lacks_all set ≡ true → ⊥
not_lacking set x h p e = true≢false (sym (some_from 4096 set x h p) ∙ not-true (has_some set) e)

relations_lack : (v : Values) (start : Cells) (rs : List Relation) → AllTrue v start rs → list_any (λ r. lacks_all r.set) rs ≡ true → ⊥
relations_lack v start [] h e = true≢false (sym e)
relations_lack v start (r ∷ rs) h e = elim (or_cases (lacks_all r.set) (list_any (λ r. lacks_all r.set) rs) e) [
  | inl q ↦ not_lacking r.set (sum_value v start r.sum) (val_lt v start r.sum) h.0 q
  | inr q ↦ relations_lack v start rs h.1 q
]

pub void_never : (f : Fact) (v : Values) (start : Cells) (link mq : ℕ) → AreValues v → link < 2 → mq < 4096 → Holds f v start link → f.link link ≡ true → f.mq mq ≡ true → is_void f ≡ true → ⊥
void_never f v start link mq vw small m h l q e = elim (or_cases _ _ e) [
  | inl x ↦ not_lacking f.mq mq m q x
  | inr y ↦ elim (or_cases _ _ y) [
    | inl x ↦ true≢false (sym (some_from 2 f.link link small l) ∙ not-true (has_link f.link) x)
    | inr z ↦ elim (or_cases _ _ z) [
      | inl x ↦ not_lacking (f.set Ac) (v Ac) (vw Ac) (h.sets Ac) x
      | inr u ↦ elim (or_cases _ _ u) [
        | inl x ↦ (let a : IsSome 4096 (λ a. lacks_all (f.set (Cell a))) = some_to 4096 (λ a. lacks_all (f.set (Cell a))) x in not_lacking (f.set (Cell a.at)) (v (Cell a.at)) (vw (Cell a.at)) (h.sets (Cell a.at)) a.holds)
        | inr x ↦ relations_lack v start f.relations h.relations x
      ]
    ]
  ]
]

pub void_never_holds : VoidNeverHolds
void_never_holds pl start f s ks sw mw ac link mq e m =
    void_never f (values pl.declaration start s.ac s.memory) start s.link s.mq (values_are pl.declaration start s.ac s.memory sw mw ac) link mq m.holds m.link m.mq e
