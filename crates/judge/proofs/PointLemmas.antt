-- What is asked of a fact at an address, by its own place.
use Rattle.std.proofs.Common.{◌≡◌, ℕ, ◌<◌, Bool, true, false, not, ◌&&◌, Some, None, List, [], ◌∷◌, ◌++◌, refl, sym, ap, ◌∙◌, subst, inl, inr}
use Rattle.std.specs.Prelude.{IsTrue, ◌↔◌, if◌then◌else◌, is_some}
use Rattle.std.proofs.lemmas.Bool.{and_parts, and_from, false≢true, true≢false}
use Rattle.peripherals.specs.Loading.{image_of}
use Rattle.declaration.specs.Declaration.{Routine, Declaration}
use Rattle.declaration.specs.DeclarationInCode.{meaning}
use Rattle.domain.specs.Facts.{Fact, Place, Rules}
use Rattle.facts.specs.Entailment.{Entails, Lands, IsIdle, LandsBy}
use Rattle.domain.specs.Facts.{OfEquations, OfSums}
use Rattle.wordset.specs.Words.{Words, all_words, nothing, only, has_some, meet, difference}
use Rattle.wordset.proofs.Tests.{none_of_some}
use Rattle.wordset.proofs.Firsts.{IsOnly, only_word}
use Rattle.instruct.specs.Instructions.{Meaning, Jms, Jmp}
use Rattle.facts.specs.Instructions.{is_call, is_jump, returned_through}
use Rattle.transfer.specs.References.{stepped, targets}
use Rattle.transfer.specs.Outcomes.{Successor, Goes, CallsTo, Returns, alive, given}
use Rattle.transfer.specs.Operations.{outcomes_of}
use Rattle.facts.specs.PlaceInCode.{place_in_code}
use Rattle.facts.specs.declared.place.Place.{Place as KeptPlace}
use Rattle.certificate_lines.specs.Certificate.{Certificate}
use Rattle.judge.specs.declared.point.Point.{Point}
use Rattle.judge.specs.Landing.{Case, place_in, facts_in, sited, sites_of, LandsAt, LandsBeyond, EachSuccessor, SuccessorLands, as_main, abandons}
use Rattle.judge.specs.Jumps.{SuccessorLandsHere, SuccessorLandsBeyond, AbandonsIf}
use Rattle.judge.specs.Points.{IsPoint, case_of}

-- the place at hand is the one that is meant
pub same_place : {A C : Type 0} {K S : ℕ} (claims : C → Certificate) (s : Point A C K S) → IsPoint claims s → place_in_code s.place ≡ place_in (case_of claims s) s.place.routine
same_place claims s point =
    let with_rules : Rules → Place = λ k. record { image = image_of s.place.image.now; declaration = meaning s.place.declaration.now; routine = s.place.routine; rules = k } in
    ap with_rules point.rules

pub meant : {A C : Type 0} {K S : ℕ} (claims : C → Certificate) (s : Point A C K S) (p : Place → Type 0) → IsPoint claims s → p (place_in_code s.place) → p (place_in (case_of claims s) s.place.routine)
meant claims s p point h = subst p (same_place claims s point) h

-- a place that was made of the parts at hand
pub made_place : {A C : Type 0} {K S : ℕ} (claims : C → Certificate) (s : Point A C K S) (p : KeptPlace A) (r : Routine) → IsPoint claims s →
    p.image.now ≡ s.place.image.now → p.declaration.now ≡ s.place.declaration.now → p.routine ≡ r → p.rules ≡ s.place.rules → place_in_code p ≡ place_in (case_of claims s) r
made_place claims s p r point image declaration routine rules = rw (image, declaration, routine, rules, point.rules) refl

-- where nothing need be asked of a fact, it lands
idle_lands : (rules : Rules) (pl : Place) (f : Fact) (among : List Fact) → IsIdle rules pl f → LandsBy rules pl f among
idle_lands OfSums pl f among idle = λ l lt has. inl (idle l lt has)
idle_lands OfEquations pl f among idle = absurd idle

pub lands_inside : (j : Case) (r : Routine) (a : ℕ) (f : Fact) (b t : Bool) → b ≡ j.declaration.body r a → b ≡ true → IsTrue t ↔ Lands (place_in j r) f (facts_in j r a) → IsTrue t ↔ LandsAt j r a f
lands_inside j r a f b t body is told = (
  λ q. inr (sym body ∙ is, told.0 q),
  λ l. elim l [ inl i ↦ told.1 (idle_lands j.certificate.rules (place_in j r) f (facts_in j r a) i) | inr k ↦ told.1 k.1 ],
)

pub lands_outside : (j : Case) (r : Routine) (a : ℕ) (f : Fact) (b t : Bool) → b ≡ j.declaration.body r a → b ≡ false → IsTrue t ↔ IsIdle j.certificate.rules (place_in j r) f → IsTrue t ↔ LandsAt j r a f
lands_outside j r a f b t body is told = (
  λ q. inl (told.0 q),
  λ l. elim l [ inl i ↦ told.1 i | inr k ↦ absurd (true≢false (sym k.0 ∙ (sym body ∙ is))) ],
)

-- outcomes that are gone through
pub each_both : (p : Successor → Type 0) (os ps : List Successor) → EachSuccessor p (os ++ ps) ↔ (EachSuccessor p os × EachSuccessor p ps)
each_both p [] ps = (λ e. (tt, e), λ e. e.1)
each_both p (o ∷ os) ps = let rest = each_both p os ps in (
  λ e. ((e.0, (rest.0 e.1).0), (rest.0 e.1).1),
  λ e. (e.0.0, rest.1 (e.0.1, e.1)),
)

pub false_if : {P : Type 0} → (P → ⊥) → IsTrue false ↔ P
false_if not = (λ q. absurd (false≢true q), λ p. absurd (not p))

module _ (p : Successor → Type 0) (os ps qs rs : List Successor) where
  parts : EachSuccessor p (os ++ (ps ++ (qs ++ rs))) → EachSuccessor p os × EachSuccessor p ps × EachSuccessor p qs × EachSuccessor p rs
  parts e =
      let first = (each_both p os (ps ++ (qs ++ rs))).0 e in
      let second = (each_both p ps (qs ++ rs)).0 first.1 in
      let third = (each_both p qs rs).0 second.1 in
      (first.0, second.0, third.0, third.1)

  pub first_fails : (EachSuccessor p os → ⊥) → IsTrue false ↔ EachSuccessor p (os ++ (ps ++ (qs ++ rs)))
  first_fails not = false_if (λ e. not (parts e).0)

  pub second_fails : (EachSuccessor p ps → ⊥) → IsTrue false ↔ EachSuccessor p (os ++ (ps ++ (qs ++ rs)))
  second_fails not = false_if (λ e. not (parts e).1)

  pub third_fails : (EachSuccessor p qs → ⊥) → IsTrue false ↔ EachSuccessor p (os ++ (ps ++ (qs ++ rs)))
  third_fails not = false_if (λ e. not (parts e).2)

  pub four_land : (t : Bool) → EachSuccessor p os → EachSuccessor p ps → EachSuccessor p qs → IsTrue t ↔ EachSuccessor p rs → IsTrue t ↔ EachSuccessor p (os ++ (ps ++ (qs ++ rs)))
  four_land t x y z told = (
    λ q. (each_both p os (ps ++ (qs ++ rs))).1 (x, (each_both p ps (qs ++ rs)).1 (y, (each_both p qs rs).1 (z, told.0 q))),
    λ e. told.1 (parts e).3,
  )

-- no outcome of a call goes on here
pub calls_land : (j : Case) (r : Routine) (f : Fact) (a : ℕ) (m : Meaning) → is_call m ≡ true → IsTrue true ↔ EachSuccessor (SuccessorLands j r m) (outcomes_of (place_in j r) f a m)
calls_land j r f a (Jms i c) e = (λ q. go (alive (place_in j r) (targets (place_in j r) i c f) (stepped (place_in j r) i c f) all_words (stepped (place_in j r) i c f)), λ k. refl)
  where
    go : (b : Bool) → EachSuccessor (SuccessorLands j r (Jms i c)) (given b (CallsTo (targets (place_in j r) i c f) (stepped (place_in j r) i c f)))
    go true = (tt, tt)
    go false = tt
calls_land j r f a _ e = absurd (false≢true e)

-- where each outcome lands in one way exactly where it lands in another
pub each_same : (p q : Successor → Type 0) (os : List Successor) → ((o : Successor) → p o ↔ q o) → EachSuccessor p os ↔ EachSuccessor q os
each_same p q [] same = (λ e. tt, λ e. tt)
each_same p q (o ∷ os) same = let rest = each_same p q os same in (λ e. ((same o).0 e.0, rest.0 e.1), λ e. ((same o).1 e.0, rest.1 e.1))

-- the outcomes of an instruction that abandons calls for no address, and of a JMP in a routine that is no return
pub stays_lands : (j : Case) (r : Routine) (m : Meaning) → AbandonsIf false j r m → (o : Successor) → SuccessorLandsHere j r o ↔ SuccessorLands j r m o
stays_lands j r m none (Goes next f) = (
  λ h a lt has. subst (λ b. LandsBeyond b j r a f) (sym (none a lt)) (h a lt has),
  λ h a lt has. subst (λ b. LandsBeyond b j r a f) (none a lt) (h a lt has),
)
stays_lands j r m none (CallsTo next f) = (λ h. h, λ h. h)
stays_lands j r m none (Returns f) = (λ h. h, λ h. h)

pub jumps_land : (j : Case) (r : Routine) (m : Meaning) → AbandonsIf true j r m → (o : Successor) → SuccessorLandsBeyond j r o ↔ SuccessorLands j r m o
jumps_land j r m some (Goes next f) = (
  λ h a lt has. subst (λ b. LandsBeyond b j r a f) (sym (some a lt)) (h a lt has),
  λ h a lt has. subst (λ b. LandsBeyond b j r a f) (some a lt) (h a lt has),
)
jumps_land j r m some (CallsTo next f) = (λ h. h, λ h. h)
jumps_land j r m some (Returns f) = (λ h. h, λ h. h)

pub told_of : {P Q : Type 0} (t : Bool) → IsTrue t ↔ P → P ↔ Q → IsTrue t ↔ Q
told_of t told same = (λ q. same.0 (told.0 q), λ h. told.1 (same.1 h))

-- whether a word may abandon calls
module _ (d : Declaration) (r : Routine) (m : Meaning) where
  pub main_abandons_none : is_some r ≡ false → (a : ℕ) → abandons d r m a ≡ false
  main_abandons_none main a = by_routine r main
    where
      by_routine : (q : Routine) → is_some q ≡ false → abandons d q m a ≡ false
      by_routine None none = refl
      by_routine (Some e) none = absurd (true≢false none)

  pub only_jumps_abandon : is_jump m ≡ false → (a : ℕ) → abandons d r m a ≡ false
  only_jumps_abandon other a = by_routine r m other
    where
      by_routine : (q : Routine) (n : Meaning) → is_jump n ≡ false → abandons d q n a ≡ false
      by_routine None n none = refl
      by_routine (Some e) (Jmp i c) none = absurd (true≢false none)
      by_routine (Some e) _ none = refl

  pub returns_abandon_none : is_some (returned_through d m) ≡ true → (a : ℕ) → abandons d r m a ≡ false
  returns_abandon_none returns a = by_routine r m returns
    where
      by_test : (c : ℕ) (b : Bool) → is_some (if b then Some c else None) ≡ true → (not b && d.abandon a) ≡ false
      by_test c true q = refl
      by_test c false q = absurd (false≢true q)

      by_routine : (q : Routine) (n : Meaning) → is_some (returned_through d n) ≡ true → abandons d q n a ≡ false
      by_routine None n some = refl
      by_routine (Some e) (Jmp i c) some = by_test c (i && d.entry c) some
      by_routine (Some e) _ some = refl

  pub jumps_abandon : is_some r ≡ true → is_jump m ≡ true → is_some (returned_through d m) ≡ false → (a : ℕ) → abandons d r m a ≡ d.abandon a
  jumps_abandon routine jump returns a = by_routine r m routine jump returns
    where
      by_test : (c : ℕ) (b : Bool) → is_some (if b then Some c else None) ≡ false → (not b && d.abandon a) ≡ d.abandon a
      by_test c true q = absurd (true≢false q)
      by_test c false q = refl

      by_routine : (q : Routine) (n : Meaning) → is_some q ≡ true → is_jump n ≡ true → is_some (returned_through d n) ≡ false → abandons d q n a ≡ d.abandon a
      by_routine None n some leap none = absurd (false≢true some)
      by_routine (Some e) (Jmp i c) some leap none = by_test c (i && d.entry c) none
      by_routine (Some e) _ some leap none = absurd (false≢true leap)

not_true : (b : Bool) → not b ≡ true → b ≡ false
not_true true q = absurd (false≢true q)
not_true false q = refl

pub abandons_if : (j : Case) (r : Routine) (m : Meaning) (b : Bool) → ((a : ℕ) → abandons j.declaration r m a ≡ j.declaration.abandon a) → b ≡ not (has_some j.declaration.abandon) → AbandonsIf (not b) j r m
abandons_if j r m true as_declared none = λ a lt. as_declared a ∙ none_of_some 4096 j.declaration.abandon (not_true (has_some j.declaration.abandon) (sym none)) a lt
abandons_if j r m false as_declared none = λ a lt. as_declared a

-- the addresses for which calls may be abandoned, and the others
pub lands_split : (j : Case) (r : Routine) (f : Fact) (set others beyond : Words) (t : Bool) → others ≡ difference set j.declaration.abandon → beyond ≡ meet set j.declaration.abandon →
    ((a : ℕ) → a < 4096 → others a ≡ true → LandsAt j r a f) → (IsTrue t ↔ ((a : ℕ) → a < 4096 → beyond a ≡ true → LandsAt j None a (as_main f))) →
    IsTrue t ↔ ((a : ℕ) → a < 4096 → set a ≡ true → LandsBeyond (j.declaration.abandon a) j r a f)
lands_split j r f set others beyond t are_others are_beyond land told = (
  λ q a lt has. at_each q a lt has (j.declaration.abandon a) refl,
  λ all. told.1 (λ a lt has.
      let both = and_parts (set a) (j.declaration.abandon a) (sym (ap (λ (w : Words). w a) are_beyond) ∙ has) in
      subst (λ b. LandsBeyond b j r a f) both.1 (all a lt both.0)),
)
  where
    at_each : IsTrue t → (a : ℕ) → a < 4096 → set a ≡ true → (b : Bool) → j.declaration.abandon a ≡ b → LandsBeyond b j r a f
    at_each q a lt has true is = told.0 q a lt (ap (λ (w : Words). w a) are_beyond ∙ and_from (set a) (j.declaration.abandon a) has is)
    at_each q a lt has false is = land a lt (ap (λ (w : Words). w a) are_others ∙ and_from (set a) (not (j.declaration.abandon a)) has (ap not is))

pub lands_not_here : (j : Case) (r : Routine) (f : Fact) (set others : Words) → others ≡ difference set j.declaration.abandon →
    (((a : ℕ) → a < 4096 → others a ≡ true → LandsAt j r a f) → ⊥) → IsTrue false ↔ ((a : ℕ) → a < 4096 → set a ≡ true → LandsBeyond (j.declaration.abandon a) j r a f)
lands_not_here j r f set others are_others none = false_if (λ all. none (λ a lt has.
    let both = and_parts (set a) (not (j.declaration.abandon a)) (sym (ap (λ (w : Words). w a) are_others) ∙ has) in
    subst (λ b. LandsBeyond b j r a f) (not_true (j.declaration.abandon a) both.1) (all a lt both.0)))

pub is_as_main : (f g h k : Fact) (sites offsets : Words) → g ≡ f → h ≡ record g { sites = sites } → sites ≡ nothing → k ≡ record h { offsets = offsets } → offsets ≡ nothing → k ≡ as_main f
is_as_main f g h k sites offsets same sited no_sites counted no_offsets = rw (counted, no_offsets, sited, no_sites, same) refl

-- where there is one fact alone by the rules of equations, a fact lands that entails it
one_lands : (rules : Rules) (pl : Place) (f g : Fact) (fs : List Fact) (t : Bool) → rules ≡ OfEquations → fs ≡ g ∷ [] → (IsTrue t ↔ Entails pl f g) → IsTrue t ↔ LandsBy rules pl f fs
one_lands rules pl f g fs t equations alone told =
    subst (λ (k : Rules). IsTrue t ↔ LandsBy k pl f fs) (sym equations)
    (subst (λ (xs : List Fact). IsTrue t ↔ LandsBy OfEquations pl f xs) (sym alone) (
      λ q. inl (told.0 q),
      λ l. elim l [ inl e ↦ told.1 e | inr never ↦ absurd never ],
    ))

pub lands_alone : (j : Case) (r : Routine) (a : ℕ) (sites : Words) (f g : Fact) (b t : Bool) → sites ≡ sites_of j.certificate r → j.certificate.rules ≡ OfEquations → sited j.certificate.rules sites (j.certificate.facts a) ≡ g ∷ [] →
    b ≡ j.declaration.body r a → b ≡ true → (IsTrue t ↔ Entails (place_in j r) f g) → IsTrue t ↔ LandsAt j r a f
lands_alone j r a sites f g b t same equations alone body is told =
    lands_inside j r a f b t body is
    (one_lands j.certificate.rules (place_in j r) f g (facts_in j r a) t equations (ap (λ (s : Words). sited j.certificate.rules s (j.certificate.facts a)) (sym same) ∙ alone) told)

-- by the rules of equations something is asked of each fact
never_idle : (rules : Rules) (pl : Place) (f : Fact) → rules ≡ OfEquations → IsIdle rules pl f → ⊥
never_idle OfEquations pl f e i = i
never_idle OfSums pl f e i = absurd (let no : OfSums ≡ OfEquations = e in cc)

pub lands_nowhere : (j : Case) (r : Routine) (a : ℕ) (f : Fact) (b : Bool) → j.certificate.rules ≡ OfEquations → b ≡ j.declaration.body r a → b ≡ false → IsTrue false ↔ LandsAt j r a f
lands_nowhere j r a f b equations body is =
    lands_outside j r a f b false body is (λ q. absurd (false≢true q), λ i. absurd (never_idle j.certificate.rules (place_in j r) f equations i))

-- where a fact lands at the one address of a set
pub lands_at_one : (j : Case) (r : Routine) (set : Words) (w : ℕ) (f : Fact) (t : Bool) → Some w ≡ only set → IsTrue t ↔ LandsAt j r w f → IsTrue t ↔ ((a : ℕ) → a < 4096 → set a ≡ true → LandsAt j r a f)
lands_at_one j r set w f t is told =
    let one : IsOnly set w = only_word set w (sym is) in (
      λ q a lt has. subst (λ (x : ℕ). LandsAt j r x f) (sym (one.lone a lt has)) (told.0 q),
      λ all. told.1 (all w one.small one.within),
    )
