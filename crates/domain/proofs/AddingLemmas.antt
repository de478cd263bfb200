-- What a fact gives for a sum is so, and relations that are true may be added.
use Rattle.std.proofs.Common.{◌≡◌, ℕ, ◌*◌, ◌<◌, ◌==◌, Bool, true, ◌&&◌, Option, Some, None, List, [], ◌∷◌, ◌++◌, refl, sym, ◌∙◌, ap, subst, arith}
use Rattle.std.proofs.lemmas.Bool.{and_parts, and_from, cond_both, eqb-true, lt-ltb}
use Rattle.wordset.specs.Words.{plus, Words, all_words, meet}
use Rattle.processor.specs.Cells.{Cells, AreWords}
use Rattle.domain.specs.Locations.{Location, Cell, same, Values}
use Rattle.domain.specs.Terms.{Term, Holding, Behind, Sum, term_value, sum_value, same_sum}
use Rattle.domain.specs.Shapes.{is_name, has_shape, Spelled, spelled}
use Rattle.domain.specs.Facts.{Relation, Fact, Rules, AllTrue, IsTrueOf, Holds}
use Rattle.domain.specs.Adding.{times, with_name, with_relation, set_among, set_of_term, set_of_shape, set_if_spelled, set_of_sum, with_term_in, is_kept, with_shape_in, with_spelled_in, adding, adding_all}
use Rattle.domain.specs.Laws.{AreValues, SpellsIt, GivenIsSo, SameButSets, AddingKeeps, AddedIsSo, AllAddedIsSo}
use Rattle.domain.proofs.Numbers.{times_in}
use Rattle.domain.proofs.SumLemmas.{same_name, val_lt, same_val, spells}

-- the word of one name
pub name_val : (x : ℕ) → x < 4096 → plus (1 * x) 0 ≡ x
name_val x h = omega arith

pub all_append : (v : Values) (start : Cells) (a b : List Relation) → AllTrue v start a → AllTrue v start b → AllTrue v start (a ++ b)
all_append v start [] b h g = g
all_append v start (r ∷ rs) b h g = (h.0, all_append v start rs b h.1 g)

-- another set for a name
pub with_name_holds : (n : Location) (set : Words) (f : Fact) (v : Values) (start : Cells) (link : ℕ) → Holds f v start link → set (v n) ≡ true → Holds (with_name n set f) v start link
with_name_holds n set f v start link h p = record {
  sets = λ m. cond_both (same m n) set (f.set m) (λ (x : Words). x (v m) ≡ true) (λ e. subst (λ (z : Location). set (v z) ≡ true) (sym (same_name m n e)) p) (λ e. h.sets m);
  relations = h.relations;
  chains = h.chains;
}

module _ (v : Values) (start : Cells) (sw : AreWords start) (vw : AreValues v) where
  abbrev pub val : Sum → ℕ
  val sum = sum_value v start sum

  pub term_lt : (t : Term) → term_value v start t < 4096
  term_lt (Holding n) = vw n
  term_lt (Behind x k) = sw (plus (v (Cell x)) k)

  small_in : (x : ℕ) → x < 4096 → all_words x ≡ true
  small_in x h = lt-ltb x 4096 h

  among_in : (sum : Sum) (rs : List Relation) → AllTrue v start rs → set_among sum rs (val sum) ≡ true
  among_in sum [] h = small_in (val sum) (val_lt v start sum)
  among_in sum (r ∷ rs) h =
      and_from _ _
      (cond_both (same_sum r.sum sum) (r.set (val sum)) true (λ (b : Bool). b ≡ true) (λ e. ap r.set (sym (same_val v start r.sum sum e)) ∙ h.0) (λ e. refl))
      (among_in sum rs h.1)

  one_in : (c : ℕ) (t : Term) (f : Fact) (link : ℕ) → ((c == 1) && is_name t) ≡ true → Holds f v start link → set_of_term f t (plus (c * term_value v start t) 0) ≡ true
  one_in c (Holding n) f link e h =
      let p = and_parts (c == 1) true e in
      ap (λ k. f.set n (plus (k * v n) 0)) (eqb-true c 1 p.0) ∙ (ap (f.set n) (name_val (v n) (vw n)) ∙ h.sets n)
  one_in c (Behind x k) f link e h = small_in _ (val_lt v start (record { coefficient = c; term = Behind x k } ∷ []))

  pub shape_in : (l : Sum) (f : Fact) (link : ℕ) → has_shape l ≡ true → Holds f v start link → set_of_shape f l (val l) ≡ true
  shape_in [] f link e h = small_in 0 (val_lt v start [])
  shape_in (s ∷ []) f link e h = one_in s.coefficient s.term f link e h
  shape_in (s ∷ t ∷ ts) f link e h = among_in (s ∷ t ∷ ts) f.relations h.relations

  pub given_in : (f : Fact) (link : ℕ) (sum : Sum) → Holds f v start link → set_of_sum f sum (val sum) ≡ true
  given_in f link sum h = go (spelled sum) refl
    where
      go : (o : Option Spelled) → spelled sum ≡ o → set_if_spelled f o (val sum) ≡ true
      go None e = small_in (val sum) (val_lt v start sum)
      go (Some s) e =
          let i : SpellsIt v start sum s = spells v start sum s e in
          ap (times s.sign (set_of_shape f s.sum)) i.whole ∙ times_in s.sign (set_of_shape f s.sum) (val s.sum) (val_lt v start s.sum) (shape_in s.sum f link i.shape h)

  relation_added : (sum : Sum) (set : Words) (rs : List Relation) → set (val sum) ≡ true → AllTrue v start rs → AllTrue v start (with_relation sum set rs)
  relation_added sum set [] p h = (p, tt)
  relation_added sum set (r ∷ rs) p h =
      cond_both (same_sum r.sum sum) (record { sum = sum; set = meet r.set set } ∷ rs) (r ∷ with_relation sum set rs) (λ (l : List Relation). AllTrue v start l)
      (λ e. (and_from _ _ (ap r.set (sym (same_val v start r.sum sum e)) ∙ h.0) p, h.1))
      (λ e. (h.0, relation_added sum set rs p h.1))

  shape_added : (rules : Rules) (l : Sum) (set : Words) (f : Fact) (link : ℕ) → has_shape l ≡ true → set (val l) ≡ true → Holds f v start link → Holds (with_shape_in rules l set f) v start link
  shape_added rules [] set f link e p h = h
  shape_added rules (s ∷ []) set f link e p h = term s.coefficient s.term e p
    where
      term : (c : ℕ) (t : Term) → ((c == 1) && is_name t) ≡ true → set (plus (c * term_value v start t) 0) ≡ true → Holds (with_term_in t set f) v start link
      term c (Behind x k) e p = h
      term c (Holding n) e p =
          let q = and_parts (c == 1) true e in
          let here : set (v n) ≡ true = ap set (sym (ap (λ k. plus (k * v n) 0) (eqb-true c 1 q.0) ∙ name_val (v n) (vw n))) ∙ p in
          with_name_holds n (meet (f.set n) set) f v start link h (and_from _ _ (h.sets n) here)
  shape_added rules (s ∷ t ∷ ts) set f link e p h =
      cond_both (is_kept rules (s ∷ t ∷ ts) set) (record f { relations = with_relation (s ∷ t ∷ ts) set f.relations }) f (λ (g : Fact). Holds g v start link)
      (λ k. record { sets = h.sets; relations = relation_added (s ∷ t ∷ ts) set f.relations p h.relations; chains = h.chains })
      (λ k. h)

  pub added : (rules : Rules) (f : Fact) (link : ℕ) (r : Relation) → Holds f v start link → IsTrueOf v start r → Holds (adding rules r f) v start link
  added rules f link r h p = go (spelled r.sum) refl
    where
      go : (o : Option Spelled) → spelled r.sum ≡ o → Holds (with_spelled_in rules o r.set f) v start link
      go None e = h
      go (Some s) e =
          let i : SpellsIt v start r.sum s = spells v start r.sum s e in
          shape_added rules s.sum (times s.sign r.set) f link i.shape
          (ap (times s.sign r.set) i.part ∙ times_in s.sign r.set (val r.sum) (val_lt v start r.sum) p) h

  pub all_added : (rules : Rules) (f : Fact) (link : ℕ) (rs : List Relation) → Holds f v start link → AllTrue v start rs → Holds (adding_all rules rs f) v start link
  all_added rules f link [] h p = h
  all_added rules f link (r ∷ rs) h p = all_added rules (adding rules r f) link rs (added rules f link r h p.0) p.1

same_at : (f : Fact) → SameButSets f f
same_at f = record { chains = refl; mq = refl; link = refl; sites = refl; offsets = refl }

term_keeps : (t : Term) (set : Words) (f : Fact) → SameButSets f (with_term_in t set f)
term_keeps (Holding n) set f = record { chains = refl; mq = refl; link = refl; sites = refl; offsets = refl }
term_keeps (Behind x k) set f = same_at f

shape_keeps : (rules : Rules) (l : Sum) (set : Words) (f : Fact) → SameButSets f (with_shape_in rules l set f)
shape_keeps rules [] set f = same_at f
shape_keeps rules (s ∷ []) set f = term_keeps s.term set f
shape_keeps rules (s ∷ t ∷ ts) set f =
    cond_both (is_kept rules (s ∷ t ∷ ts) set) (record f { relations = with_relation (s ∷ t ∷ ts) set f.relations }) f (λ (g : Fact). SameButSets f g)
    (λ k. record { chains = refl; mq = refl; link = refl; sites = refl; offsets = refl }) (λ k. same_at f)

spelled_keeps : (rules : Rules) (o : Option Spelled) (set : Words) (f : Fact) → SameButSets f (with_spelled_in rules o set f)
spelled_keeps rules None set f = same_at f
spelled_keeps rules (Some s) set f = shape_keeps rules s.sum (times s.sign set) f

pub adding_keeps : AddingKeeps
adding_keeps rules [] f = same_at f
adding_keeps rules (r ∷ rs) f =
    let a : SameButSets f (adding rules r f) = spelled_keeps rules (spelled r.sum) r.set f in
    let b : SameButSets (adding rules r f) (adding_all rules rs (adding rules r f)) = adding_keeps rules rs (adding rules r f) in
    record { chains = b.chains ∙ a.chains; mq = b.mq ∙ a.mq; link = b.link ∙ a.link; sites = b.sites ∙ a.sites; offsets = b.offsets ∙ a.offsets }

pub given_is_so : GivenIsSo
given_is_so start f v link sum sw vw h = given_in v start sw vw f link sum h

pub added_is_so : AddedIsSo
added_is_so rules start f v link r sw vw h p = added v start sw vw rules f link r h p

pub all_added_is_so : AllAddedIsSo
all_added_is_so rules start f v link rs sw vw h p = all_added v start sw vw rules f link rs h p
