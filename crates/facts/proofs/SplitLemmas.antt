-- Landing part by part: one fact after another, and one name after another.
use Rattle.std.proofs.Common.{◌≡◌, ℕ, ◌+◌, ◌<◌, ◌≤◌, Bool, true, false, ◌&&◌, ◌||◌, ◌==◌, List, [], ◌∷◌, map, drop, get_or, length, refl, sym, ap, ◌∙◌, subst, arith, inl, inr, lit<}
use Rattle.std.specs.Prelude.{IsTrue, ◌↔◌, ◌⊎◌, if◌then◌else◌, not}
use Rattle.std.proofs.lemmas.Bool.{and_from, and_parts, cond_both, eq-eqb, true≢false, false≢true, cases_lt, cases_eq, lt-ltb, ne_eqb}
use Rattle.std.specs.List.{list_any}
use Rattle.std.proofs.lemmas.List.{drop_more}
use Rattle.std.proofs.Math.Path.{fun_ext}
use Rattle.std.proofs.Math.ListN.{drop_of_length-le}
use Rattle.wordset.specs.Words.{Words, all_words, meet, IsWithin, some_below, has_some, has_link, with_word}
use Rattle.wordset.proofs.Tests.{IsSome, some_to, none_of_some, or_left, or_right}
use Rattle.wordset.proofs.SetLemmas.{all_past}
use Rattle.wordset.specs.Lanes.{words}
use Rattle.domain.specs.TrackedCells.{TrackedCell, tracked}
use Rattle.domain.specs.FactInCode.{names_words}
use Rattle.domain.specs.Locations.{Location, Ac, Cell, same}
use Rattle.domain.specs.Facts.{Relation, Fact, Place, OfEquations, OfSums}
use Rattle.domain.specs.Adding.{with_name, lacks_all, is_void}
use Rattle.domain.specs.Narrowing.{narrowed}
use Rattle.domain.proofs.SumLemmas.{same_name}
use Rattle.facts.specs.Entailment.{Entails, EntailsOne, IsVoid, met_at, TakesWord, IsSplit, PartLands, with_one_link, LandsBy, Lands, IsIdle}
use Rattle.facts.specs.Landing.{fact_at, Takes, TakesAt, IsSplitBy, AllowAll, IsTakenWhole, LandsUnder, IsIdleUnder}
use Rattle.transfer.proofs.EntailLemmas.{not_true, drop_item}
use Rattle.facts.proofs.ShowingLemmas.{words_small}

-- the fact at a place, and those behind it
pub fact_dropped : (fs : List Fact) (i : ℕ) → i < length fs → drop i fs ≡ fact_at fs i ∷ drop (i + 1) fs
fact_dropped fs i lt = drop_more fs i _ lt

module _ (pl : Place) (a : Fact) (fs : List Fact) (i : ℕ) (lt : i < length fs) (g : Fact) (is : g ≡ fact_at fs i) where
  pub one_found : Entails pl a g → (EntailsOne pl a (drop i fs) ↔ EntailsOne pl a fs) → IsTrue true ↔ EntailsOne pl a fs
  one_found e h = (λ t. h.0 (subst (EntailsOne pl a) (sym (fact_dropped fs i lt)) (inl (subst (Entails pl a) is e))), λ k. refl)

  pub one_step : (Entails pl a g → ⊥) → (EntailsOne pl a (drop i fs) ↔ EntailsOne pl a fs) → EntailsOne pl a (drop (i + 1) fs) ↔ EntailsOne pl a fs
  one_step not h = (
    λ r. h.0 (subst (EntailsOne pl a) (sym (fact_dropped fs i lt)) (inr r)),
    λ k. elim (subst (EntailsOne pl a) (fact_dropped fs i lt) (h.1 k)) [ inl e ↦ absurd (not (subst (Entails pl a) (sym is) e)) | inr r ↦ r ],
  )

pub one_none : (pl : Place) (a : Fact) (fs : List Fact) (i : ℕ) → length fs ≤ i → (EntailsOne pl a (drop i fs) ↔ EntailsOne pl a fs) → IsTrue false ↔ EntailsOne pl a fs
one_none pl a fs i past h = not_true (λ k. subst (EntailsOne pl a) (drop_of_length-le fs past) (h.1 k))

-- the words that are taken by the facts before a place, and by those from there on
abbrev pub TakenSoFar : Place → Location → Fact → Words → List Fact → List Fact → Type 0
TakenSoFar pl n a taken rest all = (v : ℕ) → v < 4096 → a.set n v ≡ true → ((taken v ≡ true) ⊎ TakesWord pl n v a rest) ↔ TakesWord pl n v a all

pub none_taken : (pl : Place) (n : Location) (a : Fact) (taken : Words) (fs : List Fact) → ((v : ℕ) → taken v ≡ false) → TakenSoFar pl n a taken fs fs
none_taken pl n a taken fs none v lt has = (λ s. elim s [ inl t ↦ absurd (true≢false (sym t ∙ none v)) | inr r ↦ r ], λ r. inr r)

pub one_taken : (pl : Place) (n : Location) (a : Fact) (old new : Words) (fs : List Fact) (i : ℕ) (g : Fact) → i < length fs → g ≡ fact_at fs i →
    ((v : ℕ) → v < 4096 → a.set n v ≡ true → (new v ≡ true) ↔ ((old v ≡ true) ⊎ TakesAt pl n v a g)) →
    TakenSoFar pl n a old (drop i fs) fs → TakenSoFar pl n a new (drop (i + 1) fs) fs
one_taken pl n a old new fs i g lt is put so v small has = (
  λ s. elim s [
    | inl t ↦ elim ((put v small has).0 t) [
      | inl o ↦ (so v small has).0 (inl o)
      | inr k ↦ (so v small has).0 (inr (subst (TakesWord pl n v a) (sym (fact_dropped fs i lt)) (inl (subst (TakesAt pl n v a) is k))))
    ]
    | inr r ↦ (so v small has).0 (inr (subst (TakesWord pl n v a) (sym (fact_dropped fs i lt)) (inr r)))
  ],
  λ k. elim ((so v small has).1 k) [
    | inl o ↦ inl ((put v small has).1 (inl o))
    | inr r ↦ elim (subst (TakesWord pl n v a) (fact_dropped fs i lt) r) [
      | inl t ↦ inl ((put v small has).1 (inr (subst (TakesAt pl n v a) (sym is) t)))
      | inr more ↦ inr more
    ]
  ],
)

pub all_taken : (pl : Place) (n : Location) (a : Fact) (taken : Words) (fs : List Fact) (i : ℕ) (b : Bool) → length fs ≤ i → TakenSoFar pl n a taken (drop i fs) fs →
    (IsTrue b ↔ IsWithin (a.set n) taken) → IsTrue b ↔ IsSplitBy pl n a fs
all_taken pl n a taken fs i b past so h = (
  λ t v lt has. (so v lt has).0 (inl (h.0 t v lt has)),
  λ k. h.1 (λ v lt has. elim ((so v lt has).1 (k v lt has)) [ inl t ↦ t | inr r ↦ absurd (subst (TakesWord pl n v a) (drop_of_length-le fs past) r) ]),
)

-- a fact that takes none of the words that are not taken yet
pub taken_before : (pl : Place) (n : Location) (a b : Fact) (taken : Words) → IsWithin (meet (a.set n) (b.set n)) taken →
    (v : ℕ) → v < 4096 → a.set n v ≡ true → (taken v ≡ true) ↔ ((taken v ≡ true) ⊎ TakesAt pl n v a b)
taken_before pl n a b taken within v lt has = (λ t. inl t, λ s. elim s [ inl t ↦ t | inr k ↦ within v lt (and_from _ _ has k.0) ])

pub taken_now : (pl : Place) (n : Location) (a b : Fact) (taken new : Words) → Takes pl n a b → ((v : ℕ) → new v ≡ (taken v || b.set n v)) →
    (v : ℕ) → v < 4096 → a.set n v ≡ true → (new v ≡ true) ↔ ((taken v ≡ true) ⊎ TakesAt pl n v a b)
taken_now pl n a b taken new takes put v lt has = (
  λ t. elim (either (taken v) (b.set n v) (sym (put v) ∙ t)) [ inl o ↦ inl o | inr k ↦ inr (k, takes) ],
  λ s. put v ∙ elim s [ inl o ↦ left (taken v) (b.set n v) o | inr k ↦ right (taken v) (b.set n v) k.0 ],
)
  where
    either : (p q : Bool) → (p || q) ≡ true → (p ≡ true) ⊎ (q ≡ true)
    either true q h = inl refl
    either false q h = inr h

    left : (p q : Bool) → p ≡ true → (p || q) ≡ true
    left true q h = refl
    left false q h = absurd (false≢true h)

    right : (p q : Bool) → q ≡ true → (p || q) ≡ true
    right true q h = refl
    right false q h = h

pub not_taken : (pl : Place) (n : Location) (a b : Fact) (taken : Words) → (Takes pl n a b → ⊥) →
    (v : ℕ) → v < 4096 → a.set n v ≡ true → (taken v ≡ true) ↔ ((taken v ≡ true) ⊎ TakesAt pl n v a b)
not_taken pl n a b taken not v lt has = (λ t. inl t, λ s. elim s [ inl t ↦ t | inr k ↦ absurd (not k.1) ])

-- cells of which no fact tells
pub told_step : (n : Location) (fs : List Fact) (i : ℕ) (g : Fact) → i < length fs → g ≡ fact_at fs i → g.set n ≡ all_words → (AllowAll n (drop i fs) → AllowAll n fs) → AllowAll n (drop (i + 1) fs) → AllowAll n fs
told_step n fs i g lt is all h rest = h (subst (AllowAll n) (sym (fact_dropped fs i lt)) (subst (λ (f : Fact). f.set n ≡ all_words) is all, rest))

-- what a set has when a word is put in
pub with_more : (new old : Words) (w v : ℕ) → new ≡ with_word w old → old v ≡ true → new v ≡ true
with_more new old w v e h = ap (λ (s : Words). s v) e ∙ or_left (old v) (v == w) h

not_first : (a b : Bool) → (a || b) ≡ false → a ≡ false
not_first true b e = absurd (true≢false e)
not_first false b e = refl

pub more_not : (new old : Words) (w v : ℕ) → new ≡ with_word w old → new v ≡ false → old v ≡ false
more_not new old w v e h = not_first (old v) (v == w) (sym (ap (λ (s : Words). s v) e) ∙ h)

pub more_other : (new old : Words) (w v : ℕ) → new ≡ with_word w old → new v ≡ false → w ≡ v → ⊥
more_other new old w v e h is = true≢false (sym (ap (λ (s : Words). s v) e ∙ or_right (old v) (v == w) (eq-eqb v w (sym is))) ∙ h)

pub still_out : (p q : Bool) → (p ≡ true → q ≡ true) → q ≡ false → p ≡ false
still_out true q f e = absurd (true≢false (sym (f refl) ∙ e))
still_out false q f e = refl

-- a cell is one of those that are told, or each fact allows it all words
pub told_or_all : (lanes : List ℕ) (fs : List Fact) (P : ℕ → Type 0) → ((x : ℕ) → words lanes x ≡ false → AllowAll (Cell x) fs) →
    ((x : ℕ) → x < 4096 → words lanes x ≡ true → P x → ⊥) → (x : ℕ) → P x → AllowAll (Cell x) fs
told_or_all lanes fs P out in_told x split = go (words lanes x) refl
  where
    go : (b : Bool) → words lanes x ≡ b → AllowAll (Cell x) fs
    go true e = absurd (in_told x (words_small lanes x e) e split)
    go false e = out x e

with_own : (n : Location) (set : Words) (a : Fact) → set ≡ a.set n → with_name n set a ≡ a
with_own n set a e = ap (λ (s : Location → Words). record a { set = s }) (fun_ext (λ m. cond_both (same m n) set (a.set m) (λ (w : Words). w ≡ a.set m)
    (λ q. e ∙ ap a.set (sym (same_name m n q))) (λ q. refl)))

meet_all : (s : Words) → ((v : ℕ) → s v ≡ true → v < 4096) → meet s all_words ≡ s
meet_all s small = fun_ext (λ v. go (s v) (small v))
  where
    go : {v : ℕ} (b : Bool) → (b ≡ true → v < 4096) → (b && all_words v) ≡ b
    go {v} true h = lt-ltb v 4096 (h refl)
    go false h = refl

met_whole : (pl : Place) (n : Location) (a b : Fact) → ((v : ℕ) → a.set n v ≡ true → v < 4096) → b.set n ≡ all_words → met_at pl n a b ≡ narrowed pl.image a
met_whole pl n a b small all = ap (narrowed pl.image) (with_own n (meet (a.set n) (b.set n)) a (ap (meet (a.set n)) all ∙ meet_all (a.set n) small))

taken_whole : (pl : Place) (n : Location) (a : Fact) (v : ℕ) (fs : List Fact) → ((w : ℕ) → a.set n w ≡ true → w < 4096) → AllowAll n fs → TakesWord pl n v a fs → IsTakenWhole pl a fs
taken_whole pl n a v [] small all t = t
taken_whole pl n a v (b ∷ bs) small all t = elim t [
  | inl k ↦ inl (subst (λ (m : Fact). IsVoid m ⊎ Entails pl m b) (met_whole pl n a b small all.0) k.1)
  | inr k ↦ inr (taken_whole pl n a v bs small all.1 k)
]

whole_taken : (pl : Place) (n : Location) (a : Fact) (v : ℕ) (fs : List Fact) → v < 4096 → ((w : ℕ) → a.set n w ≡ true → w < 4096) → AllowAll n fs → IsTakenWhole pl a fs → TakesWord pl n v a fs
whole_taken pl n a v [] lt small all t = t
whole_taken pl n a v (b ∷ bs) lt small all t = elim t [
  | inl k ↦ inl (ap (λ (s : Words). s v) all.0 ∙ lt-ltb v 4096 lt, subst (λ (m : Fact). IsVoid m ⊎ Entails pl m b) (sym (met_whole pl n a b small all.0)) k)
  | inr k ↦ inr (whole_taken pl n a v bs lt small all.1 k)
]

-- a name of a fact that is not void has a word
no_lack : (set : Words) → lacks_all set ≡ false → IsSome 4096 set
no_lack set h = some_to 4096 set (go (has_some set) h)
  where
    go : (b : Bool) → not b ≡ false → b ≡ true
    go true e = refl
    go false e = absurd (true≢false e)

none_lacks : (a : Fact) → is_void a ≡ false → (x : ℕ) → x < 4096 → lacks_all (a.set (Cell x)) ≡ false
none_lacks a h x lt =
    let beside : Bool = list_any (λ (r : Relation). lacks_all r.set) a.relations in
    let cells : Bool = some_below 4096 (λ y. lacks_all (a.set (Cell y))) in
    none_of_some 4096 (λ y. lacks_all (a.set (Cell y)))
    (left cells beside (right (lacks_all (a.set Ac)) (cells || beside) (right (not (has_link a.link)) (lacks_all (a.set Ac) || (cells || beside))
    (right (lacks_all a.mq) (not (has_link a.link) || (lacks_all (a.set Ac) || (cells || beside))) h)))) x lt
  where
    left : (p q : Bool) → (p || q) ≡ false → p ≡ false
    left true q e = absurd (true≢false e)
    left false q e = refl

    right : (p q : Bool) → (p || q) ≡ false → q ≡ false
    right true q e = absurd (true≢false e)
    right false q e = e

-- what a fact takes, by what is left
pub takes_void : (pl : Place) (n : Location) (a b met : Fact) → met ≡ met_at pl n a b → is_void met ≡ true → IsTrue true ↔ Takes pl n a b
takes_void pl n a b met is v = (λ t. inl (subst IsVoid is v), λ k. refl)

pub takes_entails : (pl : Place) (n : Location) (a b met : Fact) (t : Bool) → met ≡ met_at pl n a b → is_void met ≡ false → (IsTrue t ↔ Entails pl met b) → IsTrue t ↔ Takes pl n a b
takes_entails pl n a b met t is some h = (
  λ q. inr (subst (λ (f : Fact). Entails pl f b) is (h.0 q)),
  λ k. elim k [
    | inl v ↦ absurd (true≢false (sym (subst IsVoid (sym is) v) ∙ some))
    | inr e ↦ h.1 (subst (λ (f : Fact). Entails pl f b) (sym is) e)
  ],
)

whole_void : (pl : Place) (a : Fact) (fs : List Fact) → IsVoid (narrowed pl.image a) → 0 < length fs → IsTakenWhole pl a fs
whole_void pl a [] v some = absurd (omega (arith, some))
whole_void pl a (f ∷ fs) v some = inl (inl v)

not_none : (pl : Place) (a : Fact) (fs : List Fact) → IsTakenWhole pl a fs → 0 < length fs
not_none pl a [] h = absurd h
not_none pl a (f ∷ fs) h = omega arith

pub void_whole : (pl : Place) (a met : Fact) (fs : List Fact) (t : Bool) → met ≡ narrowed pl.image a → is_void met ≡ true → (IsTrue t ↔ (0 < length fs)) → IsTrue t ↔ IsTakenWhole pl a fs
void_whole pl a met fs t is v h = (λ q. whole_void pl a fs (subst IsVoid is v) (h.0 q), λ k. h.1 (not_none pl a fs k))

one_whole : (pl : Place) (a : Fact) (fs : List Fact) → EntailsOne pl (narrowed pl.image a) fs → IsTakenWhole pl a fs
one_whole pl a [] h = h
one_whole pl a (f ∷ fs) h = elim h [ inl e ↦ inl (inr e) | inr r ↦ inr (one_whole pl a fs r) ]

whole_one : (pl : Place) (a : Fact) (fs : List Fact) → (IsVoid (narrowed pl.image a) → ⊥) → IsTakenWhole pl a fs → EntailsOne pl (narrowed pl.image a) fs
whole_one pl a [] some h = h
whole_one pl a (f ∷ fs) some h = elim h [
  | inl k ↦ elim k [ inl v ↦ absurd (some v) | inr e ↦ inl e ]
  | inr r ↦ inr (whole_one pl a fs some r)
]

pub some_whole : (pl : Place) (a met : Fact) (fs : List Fact) (t : Bool) → met ≡ narrowed pl.image a → is_void met ≡ false → (IsTrue t ↔ EntailsOne pl met fs) → IsTrue t ↔ IsTakenWhole pl a fs
some_whole pl a met fs t is some h = (
  λ q. one_whole pl a fs (subst (λ (f : Fact). EntailsOne pl f fs) is (h.0 q)),
  λ k. h.1 (subst (λ (f : Fact). EntailsOne pl f fs) (sym is) (whole_one pl a fs (λ v. true≢false (sym (subst IsVoid (sym is) v) ∙ some)) k)),
)

-- entries of other cells
skipped : (a : ℕ) (t : TrackedCell) (ts : List TrackedCell) → (t.address ≡ a → ⊥) → tracked a (t ∷ ts) ≡ tracked a ts
skipped a t ts other = fun_ext (λ v. ap (λ b. (if b then t.set v else true) && tracked a ts v) (ne_eqb t.address a other))

pub entry_skipped : {A : Type 0} (f : A → TrackedCell) (a : ℕ) (xs : List A) (i : ℕ) (x : A) → i < length xs → x ≡ get_or xs i x → ((f x).address ≡ a → ⊥) →
    tracked a (map f (drop (i + 1) xs)) ≡ all_words → tracked a (map f (drop i xs)) ≡ all_words
entry_skipped f a xs i x lt e other h = ap (λ ys. tracked a (map f ys)) (drop_item xs i x lt e) ∙ skipped a (f x) (map f (drop (i + 1) xs)) other ∙ h

-- words of sets are small
tracked_small : (a v : ℕ) (cells : List TrackedCell) → tracked a cells v ≡ true → v < 4096
tracked_small a v [] h = elim (cases_lt v 4096) [ inl lt ↦ lt | inr past ↦ absurd (true≢false (sym h ∙ all_past v past)) ]
tracked_small a v (t ∷ ts) h = tracked_small a v ts (and_parts (if t.address == a then t.set v else true) _ h).1

pub told_small : (lanes : List ℕ) (cells : List TrackedCell) (n : Location) (v : ℕ) → names_words (words lanes) cells n v ≡ true → v < 4096
told_small lanes cells Ac v h = words_small lanes v h
told_small lanes cells (Cell a) v h = tracked_small a v cells h

-- a split by whatever name
module _ (pl : Place) (a : Fact) (fs : List Fact) (void : is_void a ≡ false) (beyond : (x : ℕ) → 4096 ≤ x → a.set (Cell x) ≡ all_words)
    (small : (n : Location) (v : ℕ) → a.set n v ≡ true → v < 4096) where
  whole_by : (x : ℕ) → IsSplitBy pl (Cell x) a fs → AllowAll (Cell x) fs → IsTakenWhole pl a fs
  whole_by x split all = elim (cases_lt x 4096) [
    | inl lt ↦ (let w : IsSome 4096 (a.set (Cell x)) = no_lack (a.set (Cell x)) (none_lacks a void x lt) in
        taken_whole pl (Cell x) a w.at fs (small (Cell x)) all (split w.at w.small w.holds))
    | inr g ↦ taken_whole pl (Cell x) a 0 fs (small (Cell x)) all (split 0 (lit< tt) (ap (λ (s : Words). s 0) (beyond x g)))
  ]

  pub split_iff : (b : Bool) → (IsSplitBy pl Ac a fs → ⊥) → ((x : ℕ) → IsSplitBy pl (Cell x) a fs → AllowAll (Cell x) fs) → AllowAll (Cell 4096) fs →
      (IsTrue b ↔ IsTakenWhole pl a fs) → IsTrue b ↔ IsSplit pl a fs
  split_iff b no_ac left last whole = (
    λ t. (Cell 4096, λ v lt has. whole_taken pl (Cell 4096) a v fs lt (small (Cell 4096)) last (whole.0 t)),
    λ s. whole.1 (by_name s.0 s.1),
  )
    where
      by_name : (n : Location) → IsSplitBy pl n a fs → IsTakenWhole pl a fs
      by_name Ac k = absurd (no_ac k)
      by_name (Cell x) k = whole_by x k (left x k)

-- a part lands
pub part_void : (pl : Place) (a : Fact) (fs : List Fact) → is_void a ≡ true → IsTrue true ↔ PartLands pl a fs
part_void pl a fs h = (λ t. inl h, λ k. refl)

pub part_entails : (pl : Place) (a : Fact) (fs : List Fact) → EntailsOne pl a fs → IsTrue true ↔ PartLands pl a fs
part_entails pl a fs h = (λ t. inr (inl h), λ k. refl)

pub part_split : (pl : Place) (a : Fact) (fs : List Fact) (b : Bool) → is_void a ≡ false → (EntailsOne pl a fs → ⊥) → (IsTrue b ↔ IsSplit pl a fs) → IsTrue b ↔ PartLands pl a fs
part_split pl a fs b void none h = (
  λ t. inr (inr (h.0 t)),
  λ k. elim k [ inl v ↦ absurd (true≢false (sym v ∙ void)) | inr m ↦ elim m [ inl e ↦ absurd (none e) | inr s ↦ h.1 s ] ],
)

-- links one by one
each_link : (p : ℕ → Type 0) → p 0 → p 1 → (l : ℕ) → l < 2 → p l
each_link p zero one l lt = elim (cases_eq l 0) [
  | inl e ↦ subst p (sym e) zero
  | inr n ↦ (let e : l ≡ 1 = omega (arith, n, lt) in subst p (sym e) one)
]

pub both_land : (pl : Place) (f : Fact) (fs : List Fact) (b : Bool) → pl.rules ≡ OfSums → LandsUnder pl 0 f fs → (IsTrue b ↔ LandsUnder pl 1 f fs) → IsTrue b ↔ Lands pl f fs
both_land pl f fs b rules zero one = (
  λ t. subst (λ r. LandsBy r pl f fs) (sym rules) (each_link (λ l. LandsUnder pl l f fs) zero (one.0 t)),
  λ k. one.1 (subst (λ r. LandsBy r pl f fs) rules k 1 (lit< tt)),
)

pub first_fails : (pl : Place) (f : Fact) (fs : List Fact) → pl.rules ≡ OfSums → (LandsUnder pl 0 f fs → ⊥) → IsTrue false ↔ Lands pl f fs
first_fails pl f fs rules not = not_true (λ k. not (subst (λ r. LandsBy r pl f fs) rules k 0 (lit< tt)))

pub one_lands : (pl : Place) (f : Fact) (fs : List Fact) (b : Bool) → pl.rules ≡ OfEquations → (IsTrue b ↔ EntailsOne pl f fs) → IsTrue b ↔ Lands pl f fs
one_lands pl f fs b rules h = subst (λ r. IsTrue b ↔ LandsBy r pl f fs) (sym rules) h

pub both_idle : (pl : Place) (f : Fact) (b : Bool) → pl.rules ≡ OfSums → IsIdleUnder pl 0 f → (IsTrue b ↔ IsIdleUnder pl 1 f) → IsTrue b ↔ IsIdle pl.rules pl f
both_idle pl f b rules zero one = (
  λ t. subst (λ r. IsIdle r pl f) (sym rules) (each_link (λ l. IsIdleUnder pl l f) zero (one.0 t)),
  λ k. one.1 (subst (λ r. IsIdle r pl f) rules k 1 (lit< tt)),
)

pub first_not_idle : (pl : Place) (f : Fact) → pl.rules ≡ OfSums → (IsIdleUnder pl 0 f → ⊥) → IsTrue false ↔ IsIdle pl.rules pl f
first_not_idle pl f rules not = not_true (λ k. not (subst (λ r. IsIdle r pl f) rules k 0 (lit< tt)))

pub never_idle : (pl : Place) (f : Fact) → pl.rules ≡ OfEquations → IsTrue false ↔ IsIdle pl.rules pl f
never_idle pl f rules = not_true (λ k. subst (λ r. IsIdle r pl f) rules k)

pub no_link : (pl : Place) (l : ℕ) (f : Fact) (fs : List Fact) → f.link l ≡ false → IsTrue true ↔ LandsUnder pl l f fs
no_link pl l f fs h = (λ t k. absurd (true≢false (sym k ∙ h)), λ k. refl)

pub under_link : (pl : Place) (l : ℕ) (f part : Fact) (fs : List Fact) (b : Bool) → f.link l ≡ true → part ≡ with_one_link pl l f → (IsTrue b ↔ PartLands pl part fs) → IsTrue b ↔ LandsUnder pl l f fs
under_link pl l f part fs b has is h = (λ t k. subst (λ x. PartLands pl x fs) is (h.0 t), λ k. h.1 (subst (λ x. PartLands pl x fs) (sym is) (k has)))

pub no_link_idle : (pl : Place) (l : ℕ) (f : Fact) → f.link l ≡ false → IsTrue true ↔ IsIdleUnder pl l f
no_link_idle pl l f h = (λ t k. absurd (true≢false (sym k ∙ h)), λ k. refl)

pub under_link_idle : (pl : Place) (l : ℕ) (f part : Fact) (b : Bool) → f.link l ≡ true → part ≡ with_one_link pl l f → b ≡ is_void part → IsTrue b ↔ IsIdleUnder pl l f
under_link_idle pl l f part b has is h = (λ t k. subst IsVoid is (sym h ∙ t), λ k. h ∙ subst IsVoid (sym is) (k has))

-- a fact of both links
pub both_parts_land : (pl : Place) (f : Fact) (fs : List Fact) (b : Bool) → f.link 0 ≡ true → f.link 1 ≡ true → pl.rules ≡ OfSums → PartLands pl (with_one_link pl 0 f) fs →
    (IsTrue b ↔ PartLands pl (with_one_link pl 1 f) fs) → IsTrue b ↔ Lands pl f fs
both_parts_land pl f fs b low high rules zero one = both_land pl f fs b rules (λ h. zero) (λ t h. one.0 t, λ k. one.1 (k high))

pub first_part_fails : (pl : Place) (f : Fact) (fs : List Fact) → f.link 0 ≡ true → pl.rules ≡ OfSums → (PartLands pl (with_one_link pl 0 f) fs → ⊥) → IsTrue false ↔ Lands pl f fs
first_part_fails pl f fs low rules not = first_fails pl f fs rules (λ k. not (k low))
