-- What the code has asked so far: word by word, condition by condition and fact by fact.
use Rattle.std.proofs.Common.{◌≡◌, ℕ, ◌+◌, ◌<◌, ◌≤◌, Bool, true, false, Option, Some, None, List, [], ◌∷◌, ◌++◌, length, drop, map, refl, sym, ap, ◌∙◌, subst, inl, inr, arith}
use Rattle.std.specs.Prelude.{IsTrue, ◌↔◌, IfSome}
use Rattle.std.proofs.Math.Dec.{leb}
use Rattle.std.proofs.Math.ListN.{drop_of_length-le}
use Rattle.std.proofs.lemmas.Bool.{leb-true, le-leb, cases_lt, eq-eqb, eqb-true, false≢true, true≢false, cases_Bool}
use Rattle.wordset.specs.Words.{Words, how_many, one}
use Rattle.instruct.specs.Instructions.{meaning_of}
use Rattle.processor.specs.Runs.{Image}
use Rattle.declaration.specs.Declaration.{Routine, IsDeclared}
use Rattle.domain.specs.Facts.{Fact, Place, Rules, OfEquations, OfSums}
use Rattle.domain.specs.Adding.{is_void}
use Rattle.domain.specs.Narrowing.{narrowed}
use Rattle.transfer.specs.References.{possible}
use Rattle.facts.specs.Landing.{fact_at}
use Rattle.facts.proofs.SplitLemmas.{fact_dropped}
use Rattle.facts.specs.declared.Condition.{Condition}
use Rattle.facts.specs.declared.Condition.TheVariants.{V1, V2, V3, V16}
use Rattle.facts.specs.Conditions.{EachIsHeldBy}
use Rattle.wordset.proofs.Tests.{or_right, none_of_some}
use Rattle.certificate_lines.specs.Certificate.{has_any, has_exits}
use Rattle.judge.specs.ConditionOrder.{place_among}
use Rattle.judge.specs.FewWords.{asks_few}
use Rattle.judge.proofs.WordLemmas.{count_one}
use Rattle.judge.proofs.ConditionLemmas.{condition_at, place_of}
use Rattle.judge.specs.Landing.{Case, place_in, with_sites, sited, sites_of, asked, asked_at}
use Rattle.judge.specs.Conditions.{HoldsAt, HoldsFor, HoldsForWords, HoldsForEach, HasFewWords, EachFact, ExitsAreHeld}
use Rattle.judge.specs.Bodies.{IsOfBody}
use Rattle.judge.specs.Asked.{ExitsAreHeldBy, RoutinesArePlaced, HasFew, HoldsOfFact, HoldsOfFacts, asked_of, IsLeastPlace, IsLeastOf, IsLeastOfSome, IsLeastOfAll}

-- ---- words

pub only_there : (pl : Place) (f : Fact) (a : ℕ) (o : Option ℕ) → pl.declaration.variable a ≡ false → o ≡ pl.image a → IfSome o (λ w. possible pl f a ≡ one w)
unfolding possible
only_there pl f a None v e = tt
only_there pl f a (Some w) v e = rw (v, ← e) refl

pub holds_only : (j : Case) (v : Condition) (r : Routine) (a : ℕ) (f : Fact) (w : ℕ) (t : Bool) → possible (place_in j r) f a ≡ one w → w < 4096 →
    IsTrue t ↔ HoldsFor j v r a f (meaning_of j.declaration.profile a w) → IsTrue t ↔ HoldsOfFact j v r a f
holds_only j v r a f w t only small told =
    let few : how_many 4096 (possible (place_in j r) f a) ≡ 1 = ap (how_many 4096) only ∙ count_one 4096 w small in (
      λ q. (
        λ asks. omega (arith, few),
        λ x lt has.
            subst (λ y. HoldsFor j v r a f (meaning_of j.declaration.profile a y)) (sym (eqb-true x w (ap (λ (s : Words). s x) (sym only) ∙ has))) (told.0 q),
      ),
      λ h. told.1 (h.1 w small (ap (λ (s : Words). s w) only ∙ eq-eqb w w refl)),
    )

pub few_where_asked : (j : Case) (v : Condition) (r : Routine) (a : ℕ) (f : Fact) (s : Words) (n : ℕ) → s ≡ possible (place_in j r) f a → n ≡ how_many 4096 s → asks_few v ≡ true →
    IsTrue (leb n 64) ↔ (asks_few v ≡ true → HasFew j r a f)
few_where_asked j v r a f s n is count asks =
    let many : n ≡ how_many 4096 (possible (place_in j r) f a) = count ∙ ap (how_many 4096) is in (
      λ t e. subst (λ m. m ≤ 64) many (leb-true n 64 t),
      λ h. le-leb n 64 (subst (λ m. m ≤ 64) (sym many) (h asks)),
    )

pub each_possible : (j : Case) (v : Condition) (r : Routine) (a : ℕ) (f : Fact) (s : Words) (t : Bool) → s ≡ possible (place_in j r) f a →
    (IsTrue t ↔ ((w : ℕ) → w < 4096 → s w ≡ true → HoldsFor j v r a f (meaning_of j.declaration.profile a w))) → IsTrue t ↔ HoldsForWords j v r a f
each_possible j v r a f s t is told = (
  λ q w lt has. told.0 q w lt (ap (λ (x : Words). x w) is ∙ has),
  λ all. told.1 (λ w lt has. all w lt (ap (λ (x : Words). x w) (sym is) ∙ has)),
)

-- ---- conditions

-- those from a place on, up to a limit, pass
abbrev pub PassedBefore : (Condition → Type 0) → ℕ → Type 0
PassedBefore holds n = (v : Condition) → 2 ≤ place_among v → place_among v < n → holds v

place_same : (v u : Condition) → place_among v ≡ place_among u → v ≡ u
place_same v u e = sym (place_of v) ∙ (ap condition_at e ∙ place_of u)

pub stops : (holds : Condition → Type 0) (limit place : ℕ) (u : Condition) (t : Bool) → 2 ≤ place → place < limit → limit ≤ 16 → PassedBefore holds place → place_among u ≡ place → t ≡ false → (holds u → IsTrue t) →
    IsLeastPlace holds limit place
stops holds limit place u t low lt high before same fails told = record {
  low = low;
  high = omega arith;
  before = before;
  fails = λ under v q h. true≢false (sym (told (subst holds (place_same v u (q ∙ sym same)) h)) ∙ fails);
}

pub one_passed : (holds : Condition → Type 0) (place : ℕ) (u : Condition) → place_among u ≡ place → holds u → PassedBefore holds place → PassedBefore holds (place + 1)
one_passed holds place u same h before v two lt = elim (cases_lt (place_among v) place) [
  | inl less ↦ before v two less
  | inr past ↦ (let e : place_among v ≡ place_among u = omega (arith, past, lt, same) in subst holds (sym (place_same v u e)) h)
]

pub passes_all : (holds : Condition → Type 0) (limit place : ℕ) → 2 ≤ limit → limit ≤ place → PassedBefore holds place → IsLeastPlace holds limit limit
passes_all holds limit place low past before = record {
  low = low;
  high = omega arith;
  before = λ v two lt. before v two (omega arith);
  fails = λ under v q h. absurd (omega (arith, under));
}

-- ---- facts

-- of each fact of two lists
pub each_both : (p : Fact → Type 0) (fs gs : List Fact) → EachFact p (fs ++ gs) ↔ (EachFact p fs × EachFact p gs)
each_both p [] gs = (λ e. (tt, e), λ e. e.1)
each_both p (f ∷ fs) gs = let rest = each_both p fs gs in (
  λ e. ((e.0, (rest.0 e.1).0), (rest.0 e.1).1),
  λ e. (e.0.0, rest.1 (e.0.1, e.1)),
)

pub asked_first : (rules : Rules) (image : Image) (f : Fact) (fs : List Fact) → asked rules image (f ∷ fs) ≡ asked rules image (f ∷ []) ++ asked rules image fs
asked_first OfEquations image f fs = refl
asked_first OfSums image f fs = elim (cases_Bool (is_void (narrowed image f))) [ inl t ↦ rw t refl | inr n ↦ rw n refl ]

pub asked_of_first : (rules : Rules) (image : Image) (sites : Words) (f : Fact) (fs : List Fact) →
    asked rules image (sited rules sites (f ∷ fs)) ≡ asked rules image (sited rules sites (f ∷ [])) ++ asked rules image (sited rules sites fs)
asked_of_first OfSums image sites f fs = asked_first OfSums image f fs
asked_of_first OfEquations image sites f fs = asked_first OfEquations image (with_sites sites f) (map (with_sites sites) fs)

pub facts_first : (j : Case) (r : Routine) (a : ℕ) (f : Fact) (fs : List Fact) (v : Condition) → HoldsOfFacts j r a (f ∷ fs) v ↔ (HoldsOfFacts j r a (f ∷ []) v × HoldsOfFacts j r a fs v)
facts_first j r a f fs v =
    let p : Fact → Type 0 = HoldsOfFact j v r a in
    subst (λ (xs : List Fact). EachFact p xs ↔ (HoldsOfFacts j r a (f ∷ []) v × HoldsOfFacts j r a fs v))
    (sym (asked_of_first j.certificate.rules j.image (sites_of j.certificate r) f fs))
    (each_both p (asked_of j r (f ∷ [])) (asked_of j r fs))

-- of no facts
pub nothing_asked : (rules : Rules) (image : Image) (sites : Words) → asked rules image (sited rules sites []) ≡ []
nothing_asked OfSums image sites = refl
nothing_asked OfEquations image sites = refl

none_left : (j : Case) (r : Routine) (a : ℕ) (v : Condition) → HoldsOfFacts j r a [] v
none_left j r a v = subst (EachFact (HoldsOfFact j v r a)) (sym (nothing_asked j.certificate.rules j.image (sites_of j.certificate r))) tt

-- what was found of the facts before a place of the list, where the limit is what it is now
pub record SoFar (j : Case) (r : Routine) (a : ℕ) (fs : List Fact) (i limit : ℕ) : Type 0 where
  pub low : 2 ≤ limit
  pub high : limit ≤ 16
  pub placed : EachFact (IsOfBody j.certificate.rules r) (drop i fs) → EachFact (IsOfBody j.certificate.rules r) fs
  pub before : (v : Condition) → 2 ≤ place_among v → place_among v < limit → HoldsOfFacts j r a (drop i fs) v → HoldsOfFacts j r a fs v
  pub fails : limit < 16 → (v : Condition) → place_among v ≡ limit → HoldsOfFacts j r a fs v → ⊥
  pub whole : EachFact (IsOfBody j.certificate.rules r) fs → EachFact (IsOfBody j.certificate.rules r) (drop i fs)
  pub each : (v : Condition) → HoldsOfFacts j r a fs v → HoldsOfFacts j r a (drop i fs) v

pub none_yet : (j : Case) (r : Routine) (a : ℕ) (fs : List Fact) → SoFar j r a fs 0 16
none_yet j r a fs = record {
  low = omega arith;
  high = omega arith;
  placed = λ e. e;
  before = λ v two lt h. h;
  fails = λ under. absurd (omega (arith, under));
  whole = λ e. e;
  each = λ v h. h;
}

-- one fact more
module _ (j : Case) (r : Routine) (a : ℕ) (fs : List Fact) (i limit place : ℕ) (lt : i < length fs) (so : SoFar j r a fs i limit) where
  abbrev body : Fact → Type 0
  body = IsOfBody j.certificate.rules r

  first_placed : EachFact body fs → body (fact_at fs i)
  first_placed e = (subst (EachFact body) (fact_dropped fs i lt) (so.whole e)).0

  first_holds : (v : Condition) → HoldsOfFacts j r a fs v → HoldsOfFacts j r a (fact_at fs i ∷ []) v × HoldsOfFacts j r a (drop (i + 1) fs) v
  first_holds v h = (facts_first j r a (fact_at fs i) (drop (i + 1) fs) v).0 (subst (λ (xs : List Fact). HoldsOfFacts j r a xs v) (fact_dropped fs i lt) (so.each v h))

  pub is_not_placed : place ≡ 1 → IsLeastOf j r a (fact_at fs i) limit place → IsLeastOfSome j r a fs 1
  is_not_placed one (inl n) = inl (refl, λ e. n.1 (first_placed e))
  is_not_placed one (inr k) = absurd (let low : 2 ≤ place = k.1.low in omega (arith, one))

  more : body (fact_at fs i) → IsLeastPlace (HoldsOfFacts j r a (fact_at fs i ∷ [])) limit place → SoFar j r a fs (i + 1) place
  more here k = record {
    low = k.low;
    high = (let l : place ≤ limit = k.high in let h : limit ≤ 16 = so.high in omega arith);
    placed = λ e. so.placed (subst (EachFact body) (sym (fact_dropped fs i lt)) (here, e));
    before = λ v two under h. so.before v two (let l : place ≤ limit = k.high in omega (arith, under))
        (subst (λ (xs : List Fact). HoldsOfFacts j r a xs v) (sym (fact_dropped fs i lt)) ((facts_first j r a (fact_at fs i) (drop (i + 1) fs) v).1 (k.before v two under, h)));
    fails = λ under v same h. elim (cases_lt place limit) [
      | inl less ↦ k.fails less v same (first_holds v h).0
      | inr past ↦ (let l : place ≤ limit = k.high in let e : place ≡ limit = omega arith in so.fails (omega (arith, e, under)) v (same ∙ e) h)
    ];
    whole = λ e. (subst (EachFact body) (fact_dropped fs i lt) (so.whole e)).1;
    each = λ v h. (first_holds v h).1;
  }

  pub one_more : (place ≡ 1 → ⊥) → IsLeastOf j r a (fact_at fs i) limit place → SoFar j r a fs (i + 1) place
  one_more not (inl n) = absurd (not n.0)
  one_more not (inr k) = more k.0 k.1

pub all_asked : (j : Case) (r : Routine) (a : ℕ) (fs : List Fact) (i limit : ℕ) → length fs ≤ i → SoFar j r a fs i limit → IsLeastOfSome j r a fs limit
all_asked j r a fs i limit past so =
    let none : drop i fs ≡ [] = drop_of_length-le fs past in
    inr (
      so.placed (subst (EachFact (IsOfBody j.certificate.rules r)) (sym none) tt),
      record {
        low = so.low;
        high = so.high;
        before = λ v two lt. so.before v two lt (subst (λ (xs : List Fact). HoldsOfFacts j r a xs v) (sym none) (none_left j r a v));
        fails = so.fails;
      },
    )

-- of one fact that is claimed, from what is asked of it
pub of_one : (j : Case) (r : Routine) (a : ℕ) (f g : Fact) (limit place : ℕ) → asked_of j r (f ∷ []) ≡ g ∷ [] → IsLeastPlace (λ v. HoldsOfFact j v r a g) limit place → IsLeastPlace (HoldsOfFacts j r a (f ∷ [])) limit place
of_one j r a f g limit place is k = record {
  low = k.low;
  high = k.high;
  before = λ v two lt. subst (EachFact (HoldsOfFact j v r a)) (sym is) (k.before v two lt, tt);
  fails = λ under v same h. k.fails under v same (subst (EachFact (HoldsOfFact j v r a)) is h).0;
}

pub of_none : (j : Case) (r : Routine) (a : ℕ) (f : Fact) (limit : ℕ) → 2 ≤ limit → asked_of j r (f ∷ []) ≡ [] → IsLeastPlace (HoldsOfFacts j r a (f ∷ [])) limit limit
of_none j r a f limit low is = record {
  low = low;
  high = omega arith;
  before = λ v two lt. subst (EachFact (HoldsOfFact j v r a)) (sym is) tt;
  fails = λ under. absurd (omega (arith, under));
}

-- ---- the conditions at the address

each_parts : (p q : Fact → Type 0) (fs : List Fact) → EachFact (λ f. p f × q f) fs ↔ (EachFact p fs × EachFact q fs)
each_parts p q [] = (λ e. (tt, tt), λ e. tt)
each_parts p q (f ∷ fs) = let rest = each_parts p q fs in (
  λ e. ((e.0.0, (rest.0 e.1).0), (e.0.1, (rest.0 e.1).1)),
  λ e. ((e.0.0, e.1.0), rest.1 (e.0.1, e.1.1)),
)

each_if : (p q : Fact → Type 0) (fs : List Fact) → ((f : Fact) → p f → q f) → EachFact p fs → EachFact q fs
each_if p q [] h e = tt
each_if p q (f ∷ fs) h e = (h f e.0, each_if p q fs h e.1)

-- in the one body that has the address
in_body : (j : Case) (r : Routine) (a : ℕ) (p : Routine → Fact → Type 0) → IsDeclared j.declaration → j.declaration.body r a ≡ true → EachFact (p r) (asked_at j r a) →
    (q : Routine) → j.declaration.body q a ≡ true → EachFact (p q) (asked_at j q a)
in_body j r a p d here e q there = subst (λ k. EachFact (p k) (asked_at j k a)) (d.bodies_apart a r q here there) e

few_of : (j : Case) (v : Condition) (r : Routine) (a : ℕ) → HoldsOfFacts j r a (j.certificate.facts a) v → asks_few v ≡ true → EachFact (HasFew j r a) (asked_at j r a)
few_of j v r a h asks = each_if (HoldsOfFact j v r a) (HasFew j r a) (asked_at j r a) (λ f x. x.0 asks) h

words_of : (j : Case) (v : Condition) (r : Routine) (a : ℕ) → HoldsOfFacts j r a (j.certificate.facts a) v → EachFact (HoldsForWords j v r a) (asked_at j r a)
words_of j v r a h = each_if (HoldsOfFact j v r a) (HoldsForWords j v r a) (asked_at j r a) (λ f x. x.1) h

from_each : (j : Case) (v : Condition) (a : ℕ) → 2 ≤ place_among v → (asks_few v ≡ true → HasFewWords j a) → (v ≡ V16 → ExitsAreHeld j a) → HoldsForEach j v a → HoldsAt j v a
from_each j V1 a le few exits each = absurd (omega arith)
from_each j V2 a le few exits each = absurd (omega arith)
from_each j V3 a le few exits each = (few refl, each)
from_each j V16 a le few exits each = (each, exits refl)
from_each j _ a le few exits each = each

to_each : (j : Case) (v : Condition) (a : ℕ) → 2 ≤ place_among v → HoldsAt j v a → HoldsForEach j v a
to_each j V1 a le h = absurd (omega arith)
to_each j V2 a le h = absurd (omega arith)
to_each j V3 a le h = h.1
to_each j V16 a le h = h.0
to_each j _ a le h = h

to_few : (j : Case) (v : Condition) (a : ℕ) → 2 ≤ place_among v → HoldsAt j v a → asks_few v ≡ true → HasFewWords j a
to_few j V1 a le h asks = absurd (omega arith)
to_few j V2 a le h asks = absurd (omega arith)
to_few j V3 a le h asks = h.0
to_few j V16 a le h asks = absurd (false≢true asks)
to_few j _ a le h asks = absurd (false≢true asks)

-- no exits are claimed at an address of a body
no_exits : (j : Case) (a : ℕ) → RoutinesArePlaced j a → j.declaration.entry a ≡ false → has_exits j.certificate a ≡ false
no_exits j a placed outside = go (has_exits j.certificate a) refl
  where
    go : (b : Bool) → has_exits j.certificate a ≡ b → has_exits j.certificate a ≡ false
    go false is = is
    go true is = absurd (true≢false (sym (placed (or_right (j.certificate.listed a) (has_exits j.certificate a) is)) ∙ outside))

pub exits_held : (j : Case) (e o : ℕ) → j.certificate.exits e o ≡ [] → ExitsAreHeldBy j e o
exits_held j e o none =
    subst (EachFact (λ x. EachIsHeldBy (place_in j (Some e)) x e o j.declaration.returns))
    (sym (ap (λ (xs : List Fact). asked j.certificate.rules j.image (sited j.certificate.rules (j.certificate.sites e) xs)) none ∙ nothing_asked j.certificate.rules j.image (j.certificate.sites e))) tt

pub no_exits_held : (j : Case) (e : ℕ) → has_exits j.certificate e ≡ false → ExitsAreHeld j e
no_exits_held j e empty o lt = exits_held j e o (none (j.certificate.exits e o) (none_of_some 64 (λ i. has_any (j.certificate.exits e i)) empty o lt))
  where
    none : (xs : List Fact) → has_any xs ≡ false → xs ≡ []
    none [] h = refl
    none (x ∷ xs) h = absurd (true≢false h)

pub body_exits : (j : Case) (r : Routine) (a : ℕ) → IsDeclared j.declaration → RoutinesArePlaced j a → j.declaration.body r a ≡ true → ExitsAreHeld j a
body_exits j r a d placed here = no_exits_held j a (no_exits j a placed (go (j.declaration.entry a) refl))
  where
    go : (b : Bool) → j.declaration.entry a ≡ b → j.declaration.entry a ≡ false
    go false is = is
    go true is = absurd (true≢false (sym here ∙ d.entry_not_in_body a r is))

pub holds_at : (j : Case) (v : Condition) (r : Routine) (a : ℕ) → 2 ≤ place_among v → IsDeclared j.declaration → RoutinesArePlaced j a → j.declaration.body r a ≡ true → HoldsOfFacts j r a (j.certificate.facts a) v ↔ HoldsAt j v a
holds_at j v r a le d placed here = (
  λ h. from_each j v a le
      (λ asks. in_body j r a (λ k. HasFew j k a) d here (few_of j v r a h asks))
      (λ is. body_exits j r a d placed here)
      (in_body j r a (λ k. HoldsForWords j v k a) d here (words_of j v r a h)),
  λ h. go (asks_few v) refl h,
)
  where
    go : (b : Bool) → asks_few v ≡ b → HoldsAt j v a → HoldsOfFacts j r a (j.certificate.facts a) v
    go true asks h = each_if (λ f. HasFew j r a f × HoldsForWords j v r a f) (HoldsOfFact j v r a) (asked_at j r a) (λ f x. (λ e. x.0, x.1))
        ((each_parts (HasFew j r a) (HoldsForWords j v r a) (asked_at j r a)).1 (to_few j v a le h asks r here, to_each j v a le h r here))
    go false asks h = each_if (HoldsForWords j v r a) (HoldsOfFact j v r a) (asked_at j r a) (λ f x. (λ e. absurd (true≢false (sym e ∙ asks)), x)) (to_each j v a le h r here)

-- where there are no facts
pub none_hold : (j : Case) (v : Condition) (a : ℕ) → 2 ≤ place_among v → j.certificate.facts a ≡ [] → (v ≡ V16 → ExitsAreHeld j a) → HoldsAt j v a
none_hold j v a le none exits =
    let empty : (r : Routine) → asked_at j r a ≡ [] = λ r. ap (λ (fs : List Fact). asked_of j r fs) none ∙ nothing_asked j.certificate.rules j.image (sites_of j.certificate r) in
    from_each j v a le
    (λ asks r here. subst (EachFact (HasFew j r a)) (sym (empty r)) tt)
    exits
    (λ r here. subst (EachFact (HoldsForWords j v r a)) (sym (empty r)) tt)

-- where it is the only one
pub least_alone : (j : Case) (r : Routine) (a : ℕ) (f : Fact) (place : ℕ) → j.certificate.facts a ≡ f ∷ [] → IsLeastOf j r a f 16 place → IsLeastOfAll j r a place
least_alone j r a f place only k = subst (λ (fs : List Fact). IsLeastOfSome j r a fs place) (sym only) (go k)
  where
    go : IsLeastOf j r a f 16 place → IsLeastOfSome j r a (f ∷ []) place
    go (inl n) = inl (n.0, λ e. n.1 e.0)
    go (inr q) = inr ((q.0, tt), q.1)
