-- Whether the lines at an address are where they may be, and what was found there, from what is asked of them.
use Rattle.std.proofs.Common.{◌≡◌, ℕ, ◌<◌, ◌≤◌, Bool, true, false, not, Some, None, List, [], ◌∷◌, length, refl, sym, ap, ◌∙◌, subst, inl, inr, arith}
use Rattle.std.specs.Prelude.{IsTrue, ◌↔◌, ◌||◌}
use Rattle.std.proofs.lemmas.Bool.{true≢false, false≢true}
use Rattle.wordset.specs.Words.{Words, some_below, has_some}
use Rattle.wordset.proofs.Tests.{or_left, or_right, none_of_some, some_none_of}
use Rattle.declaration.specs.Declaration.{Routine, IsDeclared}
use Rattle.domain.specs.Facts.{Fact, Rules, OfEquations, OfSums}
use Rattle.facts.specs.Entailment.{Lands}
use Rattle.facts.specs.Starts.{start_fact}
use Rattle.facts.specs.declared.Condition.{Condition}
use Rattle.facts.specs.declared.Condition.TheVariants.{V1, V2, V16}
use Rattle.certificate_lines.specs.Certificate.{Certificate, has_any, has_exits, claimed, names_routine}
use Rattle.judge.specs.ConditionOrder.{place_among}
use Rattle.judge.specs.Landing.{Case, place_in, facts_in}
use Rattle.judge.specs.Conditions.{HoldsAt, EachFact, ExitsAreHeld, IsPlaced, IsOfMain, IsOfRoutine, HasSites, LinesArePlaced}
use Rattle.judge.specs.Bodies.{IsOfBody}
use Rattle.judge.specs.Asked.{RoutinesArePlaced, HoldsBetween, FailsAtLine, IsLeastOfAll}
use Rattle.judge.specs.declared.case.Case.{Case as KeptCase}
use Rattle.judge.specs.Judged.{case_kept}
use Rattle.domain.specs.declared.sum_fact.Rules.{Rules as KeptRules}
use Rattle.domain.specs.FactInCode.{rules_of}
use Rattle.facts.specs.declared.place.Place.{Place as KeptPlace}
use Rattle.facts.specs.PlaceInCode.{place_in_code}
use Rattle.judge.proofs.AskedLemmas.{holds_at, none_hold, no_exits_held}
use Rattle.judge.proofs.OrderLemmas.{after_lines}
use Rattle.judge.proofs.PointLemmas.{lands_inside}

-- the only body that has the address
abbrev pub IsOnly : Case → ℕ → Routine → Type 0
IsOnly j a r = (q : Routine) → j.declaration.body q a ≡ true → Some r ≡ Some q

pub nowhere : (j : Case) (a : ℕ) → ((r : Routine) → j.declaration.body r a ≡ false) → (f : Fact) → IsPlaced j a f → ⊥
nowhere j a none f (inl p) = true≢false (sym p.0 ∙ none None)
nowhere j a none f (inr p) = true≢false (sym p.1 ∙ none (Some p.0))

pub is_unlisted : (j : Case) (a e : ℕ) → IsOnly j a (Some e) → j.certificate.listed e ≡ false → (f : Fact) → IsPlaced j a f → ⊥
is_unlisted j a e only h f (inl p) = let q : Some (Some e) ≡ Some None = only None p.0 in cc
is_unlisted j a e only h f (inr p) =
    let q : e ≡ p.0 = (let s : Some (Some e) ≡ Some (Some p.0) = only (Some p.0) p.1 in cc) in
    true≢false (sym p.2 ∙ subst (λ k. j.certificate.listed k ≡ false) q h)

-- what a fact in a body must have is what it must have where it stands
to_placed : (j : Case) (a : ℕ) (r : Routine) → j.declaration.body r a ≡ true → ((e : ℕ) → r ≡ Some e → j.certificate.listed e ≡ true) → (f : Fact) → IsOfBody j.certificate.rules r f → IsPlaced j a f
to_placed j a None here listed f h = inl (here, h)
to_placed j a (Some e) here listed f h = inr (e, here, listed e refl, h)

some_same : {e d : ℕ} → Some e ≡ Some d → e ≡ d
some_same h = cc

none_some : {e : ℕ} → None ≡ Some e → ⊥
none_some h = cc

of_placed : (j : Case) (a : ℕ) (r : Routine) → IsDeclared j.declaration → j.declaration.body r a ≡ true → (f : Fact) → IsPlaced j a f → IsOfBody j.certificate.rules r f
of_placed j a None d here f (inl p) = p.1
of_placed j a None d here f (inr p) = absurd (none_some (d.bodies_apart a None (Some p.0) here p.1))
of_placed j a (Some e) d here f (inl p) = absurd (none_some (sym (d.bodies_apart a (Some e) None here p.0)))
of_placed j a (Some e) d here f (inr p) = p.3

each_if : (p q : Fact → Type 0) (fs : List Fact) → ((f : Fact) → p f → q f) → EachFact p fs → EachFact q fs
each_if p q [] h e = tt
each_if p q (f ∷ fs) h e = (h f e.0, each_if p q fs h e.1)

pub lines_placed : (j : Case) (a : ℕ) → RoutinesArePlaced j a → EachFact (IsPlaced j a) (j.certificate.facts a) → LinesArePlaced j a
lines_placed j a h p = record {
  facts = p;
  routine = λ l. h (or_left (j.certificate.listed a) (has_exits j.certificate a) l);
  exits = λ l. h (or_right (j.certificate.listed a) (has_exits j.certificate a) l);
}

-- a fact is a line
some_any : (fs : List Fact) → 0 < length fs → has_any fs ≡ true
some_any [] lt = absurd (omega arith)
some_any (f ∷ fs) lt = refl

pub fact_line : (j : Case) (a : ℕ) → 0 < length (j.certificate.facts a) → claimed j.certificate a ≡ true
fact_line j a lt = or_right (j.certificate.listed a) _ (or_left (has_any (j.certificate.facts a)) (has_exits j.certificate a) (some_any (j.certificate.facts a) lt))

-- a routine or an exit is one
pub named_line : (listed fact exits : Bool) → (listed || exits) ≡ true → (listed || (fact || exits)) ≡ true
named_line true fact exits h = refl
named_line false true exits h = refl
named_line false false exits h = h

-- ---- the verdict at an address

lines_fail : (j : Case) (a : ℕ) → claimed j.certificate a ≡ true → (HoldsAt j V2 a → ⊥) → FailsAtLine j a V2
lines_fail j a line fails = record {
  line = line;
  first = record { past = omega arith; fails = fails; before = λ v one lt. absurd (omega (arith, lt)) };
}

pub not_entry : (j : Case) (a : ℕ) (named entry : Bool) → named ≡ names_routine j.certificate a → named ≡ true → entry ≡ j.declaration.entry a → entry ≡ false → FailsAtLine j a V2
not_entry j a named entry is there same lacks =
    let names : names_routine j.certificate a ≡ true = sym is ∙ there in
    lines_fail j a (named_line (j.certificate.listed a) (has_any (j.certificate.facts a)) (has_exits j.certificate a) names) (λ l. true≢false (sym (both (j.certificate.listed a) (has_exits j.certificate a) names l.routine l.exits) ∙ (sym same ∙ lacks)))
  where
    both : (x y : Bool) → (x || y) ≡ true → (x ≡ true → j.declaration.entry a ≡ true) → (y ≡ true → j.declaration.entry a ≡ true) → j.declaration.entry a ≡ true
    both true y h p q = p refl
    both false y h p q = q h

pub no_body : (j : Case) (a : ℕ) → 0 < length (j.certificate.facts a) → ((f : Fact) → IsPlaced j a f → ⊥) → FailsAtLine j a V2
no_body j a some none = lines_fail j a (fact_line j a some) (λ l. go (j.certificate.facts a) some l.facts)
  where
    go : (fs : List Fact) → 0 < length fs → EachFact (IsPlaced j a) fs → ⊥
    go [] lt e = omega (arith, lt)
    go (f ∷ fs) lt e = none f e.0

pub no_facts : (j : Case) (a : ℕ) → RoutinesArePlaced j a → j.certificate.facts a ≡ [] → ExitsAreHeld j a → HoldsBetween j 1 16 a
no_facts j a placed none held =
    after_lines j 16 a (lines_placed j a placed (subst (EachFact (IsPlaced j a)) (sym none) tt)) (λ v two lt. none_hold j v a two none (λ is. held))

-- where the exits don't keep what is asserted of them, there are some
exits_there : (j : Case) (a : ℕ) → (ExitsAreHeld j a → ⊥) → has_exits j.certificate a ≡ true
exits_there j a not = go (has_exits j.certificate a) refl
  where
    go : (b : Bool) → has_exits j.certificate a ≡ b → b ≡ true
    go true is = refl
    go false is = absurd (not (no_exits_held j a is))

pub exits_fail : (j : Case) (a : ℕ) → RoutinesArePlaced j a → j.certificate.facts a ≡ [] → (ExitsAreHeld j a → ⊥) → FailsAtLine j a V16
exits_fail j a placed none not = record {
  line = or_right (j.certificate.listed a) _ (or_right (has_any (j.certificate.facts a)) (has_exits j.certificate a) (exits_there j a not));
  first = record {
    past = omega arith;
    fails = λ h. not h.1;
    before = after_lines j _ a (lines_placed j a placed (subst (EachFact (IsPlaced j a)) (sym none) tt)) (λ v two lt. none_hold j v a two none (λ is. absurd (let place : place_among v ≡ 15 = ap place_among is in omega (arith, lt, place))));
  };
}

-- some facts in a body
pub lines_hold : (j : Case) (a : ℕ) (r : Routine) → RoutinesArePlaced j a → j.declaration.body r a ≡ true → ((e : ℕ) → r ≡ Some e → j.certificate.listed e ≡ true) →
    EachFact (IsOfBody j.certificate.rules r) (j.certificate.facts a) → LinesArePlaced j a
lines_hold j a r placed here listed each = lines_placed j a placed (each_if (IsOfBody j.certificate.rules r) (IsPlaced j a) (j.certificate.facts a) (to_placed j a r here listed) each)

pub some_not_placed : (j : Case) (a : ℕ) (r : Routine) (place : ℕ) → IsDeclared j.declaration → j.declaration.body r a ≡ true → 0 < length (j.certificate.facts a) → place ≡ 1 → IsLeastOfAll j r a place → FailsAtLine j a V2
some_not_placed j a r place d here some one (inl n) =
    lines_fail j a (fact_line j a some) (λ l. n.1 (each_if (IsPlaced j a) (IsOfBody j.certificate.rules r) (j.certificate.facts a) (of_placed j a r d here) l.facts))
some_not_placed j a r place d here some one (inr k) = absurd (let low : 2 ≤ place = k.1.low in omega (arith, one))

pub all_hold_here : (j : Case) (a : ℕ) (r : Routine) (place : ℕ) → IsDeclared j.declaration → j.declaration.body r a ≡ true → RoutinesArePlaced j a → ((e : ℕ) → r ≡ Some e → j.certificate.listed e ≡ true) →
    16 ≤ place → IsLeastOfAll j r a place → HoldsBetween j 1 16 a
all_hold_here j a r place d here placed listed past (inl n) = absurd (omega (arith, n.0, past))
all_hold_here j a r place d here placed listed past (inr k) =
    after_lines j 16 a (lines_hold j a r placed here listed k.0) (λ v two lt. (holds_at j v r a two d placed here).0 (k.1.before v two (omega (arith, lt, past))))

pub one_fails_here : (j : Case) (a : ℕ) (r : Routine) (place : ℕ) (v : Condition) → IsDeclared j.declaration → j.declaration.body r a ≡ true → RoutinesArePlaced j a → ((e : ℕ) → r ≡ Some e → j.certificate.listed e ≡ true) →
    0 < length (j.certificate.facts a) → (place ≡ 1 → ⊥) → place < 16 → place_among v ≡ place → IsLeastOfAll j r a place → FailsAtLine j a v
one_fails_here j a r place v d here placed listed some not under same (inl n) = absurd (not n.0)
one_fails_here j a r place v d here placed listed some not under same (inr k) =
    let two : 2 ≤ place_among v = (let low : 2 ≤ place = k.1.low in omega (arith, same)) in
    record {
      line = fact_line j a some;
      first = record {
        past = omega (arith, two);
        fails = λ h. k.1.fails under v same ((holds_at j v r a two d placed here).1 h);
        before = after_lines j _ a (lines_hold j a r placed here listed k.0) (λ u low lt. (holds_at j u r a low d placed here).0 (k.1.before u low (omega (arith, lt, same))));
      };
    }

-- the start, which is in main's body
pub start_iff : (j : Case) (t : Bool) (a : ℕ) → IsDeclared j.declaration → a ≡ j.declaration.start → IsTrue t ↔ Lands (place_in j None) (start_fact j.image) (facts_in j None a) →
    IsTrue t ↔ HoldsAt j V1 j.declaration.start
start_iff j t a d is told =
    lands_inside j None j.declaration.start (start_fact j.image) true t (sym d.start_in_main) refl
    (subst (λ b. IsTrue t ↔ Lands (place_in j None) (start_fact j.image) (facts_in j None b)) is told)

-- ---- what a fact has in a body

pub of_main : (f : Fact) (s o : Words) (x y : Bool) → s ≡ f.sites → o ≡ f.offsets → x ≡ not (has_some s) → x ≡ true → (IsTrue y ↔ ((i : ℕ) → i < 64 → o i ≡ false)) → IsTrue y ↔ IsOfMain f
of_main f s o x y sites offsets empty is none = (
  λ t. record {
    sites = ap has_some (sym sites) ∙ not_true (has_some s) (sym empty ∙ is);
    offsets = some_none_of 64 f.offsets (λ i lt. ap (λ (w : Words). w i) (sym offsets) ∙ none.0 t i lt);
  },
  λ m. none.1 (λ i lt. ap (λ (w : Words). w i) offsets ∙ none_of_some 64 f.offsets m.offsets i lt),
)
  where
    not_true : (b : Bool) → not b ≡ true → b ≡ false
    not_true false q = refl
    not_true true q = absurd (true≢false (sym q))

pub site_in_main : (f : Fact) (s : Words) (x : Bool) → s ≡ f.sites → x ≡ not (has_some s) → x ≡ false → IsTrue false ↔ IsOfMain f
site_in_main f s x sites empty is = (
  λ q. absurd (false≢true q),
  λ m. absurd (true≢false (ap not (sym (ap has_some sites ∙ m.sites)) ∙ (sym empty ∙ is))),
)

some_offset : (f : Fact) (o : Words) (y : Bool) → o ≡ f.offsets → (IsTrue y ↔ ((i : ℕ) → i < 64 → o i ≡ false)) → y ≡ false → some_below 64 f.offsets ≡ true
some_offset f o y offsets none is = go (some_below 64 f.offsets) refl
  where
    go : (b : Bool) → some_below 64 f.offsets ≡ b → some_below 64 f.offsets ≡ true
    go true q = q
    go false q = absurd (true≢false (sym (none.1 (λ i lt. ap (λ (w : Words). w i) offsets ∙ none_of_some 64 f.offsets q i lt)) ∙ is))

pub no_offset : (rules : Rules) (f : Fact) (o : Words) (y : Bool) → o ≡ f.offsets → (IsTrue y ↔ ((i : ℕ) → i < 64 → o i ≡ false)) → y ≡ true → IsTrue false ↔ IsOfRoutine rules f
no_offset rules f o y offsets none is = (
  λ q. absurd (false≢true q),
  λ m. absurd (true≢false (sym m.offsets ∙ some_none_of 64 f.offsets (λ i lt. ap (λ (w : Words). w i) (sym offsets) ∙ none.0 is i lt))),
)

pub of_routine : (rules : Rules) (f : Fact) (o : Words) (y t : Bool) → o ≡ f.offsets → (IsTrue y ↔ ((i : ℕ) → i < 64 → o i ≡ false)) → y ≡ false → (IsTrue t ↔ HasSites rules f) → IsTrue t ↔ IsOfRoutine rules f
of_routine rules f o y t offsets none is sites = (
  λ q. record { sites = sites.0 q; offsets = some_offset f o y offsets none is },
  λ m. sites.1 m.sites,
)

pub some_site : (f : Fact) (s : Words) (x : Bool) → s ≡ f.sites → x ≡ not (has_some s) → IsTrue (not x) ↔ HasSites OfSums f
some_site f s x sites empty = (
  λ t. ap has_some (sym sites) ∙ not_not (has_some s) (ap not (sym empty) ∙ t),
  λ h. ap not empty ∙ ap (λ b. not (not b)) (ap has_some sites ∙ h),
)
  where
    not_not : (b : Bool) → not (not b) ≡ true → b ≡ true
    not_not true q = refl
    not_not false q = absurd (false≢true q)

-- ---- bodies and places

pub place_made : {A C : Type 0} (claims : C → Certificate) (k : KeptCase A C) (p : KeptPlace A) (r : Routine) (rules : KeptRules) →
    p.image.now ≡ k.image.now → p.declaration.now ≡ k.declaration.now → p.routine ≡ r → p.rules ≡ rules → rules_of rules ≡ (claims k.claims.now).rules → place_in_code p ≡ place_in (case_kept claims k) r
place_made claims k p r rules image declaration routine own same = rw (image, declaration, routine, own, same) refl

pub start_place : {A C : Type 0} (claims : C → Certificate) (k : KeptCase A C) (p : KeptPlace A) (rules : KeptRules) →
    p.image.now ≡ k.image.now → p.declaration.now ≡ k.declaration.now → p.routine ≡ None → p.rules ≡ rules → rules_of rules ≡ (claims k.claims.now).rules → place_in_code p ≡ place_in (case_kept claims k) None
start_place claims k p rules image declaration routine own same = place_made claims k p None rules image declaration routine own same

-- by the rules of equations no site is asked for
pub sites_free : (rules : Rules) (f : Fact) → rules ≡ OfEquations → IsTrue true ↔ HasSites rules f
sites_free rules f is = subst (λ (k : Rules). IsTrue true ↔ HasSites k f) (sym is) (λ t. tt, λ h. refl)

pub allows_none : (rules : Rules) (r : Routine) (f : Fact) (t : Bool) → r ≡ None → IsTrue t ↔ IsOfMain f → IsTrue t ↔ IsOfBody rules r f
allows_none rules r f t is told = subst (λ (x : Routine). IsTrue t ↔ IsOfBody rules x f) (sym is) told

pub allows_some : (rules : Rules) (r : Routine) (e : ℕ) (f : Fact) (t : Bool) → r ≡ Some e → IsTrue t ↔ IsOfRoutine rules f → IsTrue t ↔ IsOfBody rules r f
allows_some rules r e f t is told = subst (λ (x : Routine). IsTrue t ↔ IsOfBody rules x f) (sym is) told
