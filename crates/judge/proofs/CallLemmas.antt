-- What is asked of calls and returns, from what the code found.
use Rattle.std.proofs.Common.{◌≡◌, ℕ, ◌+◌, ◌%◌, ◌<◌, ◌≤◌, Bool, true, false, ◌&&◌, Some, None, List, [], ◌∷◌, length, drop, refl, sym, ap, ◌∙◌, subst, inl, inr, arith}
use Rattle.std.specs.Prelude.{IsTrue, ◌↔◌, if◌then◌else◌}
use Rattle.std.proofs.Math.Path.{fun_ext}
use Rattle.std.proofs.Math.ListN.{drop_of_length-le}
use Rattle.std.proofs.lemmas.Bool.{false≢true, true≢false, cases_lt}
use Rattle.instruct.specs.Instructions.{Meaning, Jms, Jmp}
use Rattle.wordset.specs.Words.{Words, IsWithin, plus, nothing, one, with_word, HasNoneFrom, IsFirstFrom}
use Rattle.declaration.specs.Declaration.{Routine}
use Rattle.domain.specs.Facts.{Fact, Place, Rules, OfEquations, OfSums}
use Rattle.domain.specs.Moves.{joined}
use Rattle.facts.specs.Instructions.{is_call, calls_through_index, returned_through}
use Rattle.facts.specs.Conditions.{called}
use Rattle.facts.specs.Entailment.{Lands}
use Rattle.facts.specs.Landing.{fact_at}
use Rattle.facts.proofs.SplitLemmas.{fact_dropped}
use Rattle.certificate_lines.specs.Certificate.{Certificate, has_any, writes_of}
use Rattle.judge.specs.Landing.{Case, place_in, sites_of, sited, LandsAt, LandsAtExit, LandsAfter, EachLandsAfter, called_from}
use Rattle.judge.specs.Conditions.{EachTarget, KeepsPointer, CoversCallee, MayReturn, ReturnsWell}
use Rattle.judge.specs.Callees.{LandsBy, LandsWith, ReturnsBy, ReturnsThrough}

-- Each of the cells that a word may call is each target of a JMS.
pub each_target : (j : Case) (r : Routine) (f : Fact) (m : Meaning) (p : ℕ → Type 0) (set : Words) (t : Bool) → set ≡ called (place_in j r) f m →
    (IsTrue t ↔ ((e : ℕ) → e < 4096 → set e ≡ true → p e)) → IsTrue t ↔ EachTarget j r f m p
each_target j r f m p set t is told = go m (subst (λ (s : Words). IsTrue t ↔ ((e : ℕ) → e < 4096 → s e ≡ true → p e)) is told)
  where
    go : (n : Meaning) → (IsTrue t ↔ ((e : ℕ) → e < 4096 → called (place_in j r) f n e ≡ true → p e)) → IsTrue t ↔ EachTarget j r f n p
    go (Jms i c) h = h
    go _ h = (λ q. tt, λ each. h.1 (λ e lt has. absurd (false≢true has)))

-- No word but a JMS has a target.
pub no_target : (j : Case) (r : Routine) (f : Fact) (m : Meaning) (p : ℕ → Type 0) → is_call m ≡ false → IsTrue true ↔ EachTarget j r f m p
no_target j r f (Jms i c) p e = absurd (true≢false e)
no_target j r f _ p e = (λ q. tt, λ each. refl)

-- A word keeps the pointer where it is not a JMS through an auto-index cell.
pub keeps_pointer : (m : Meaning) (b : Bool) → b ≡ calls_through_index m → KeepsPointer m ↔ (b ≡ false)
keeps_pointer (Jms i c) b e = (λ k. e ∙ k, λ k. sym e ∙ k)
keeps_pointer _ b e = (λ k. e, λ k. tt)

pub steps_pointer_first : {p : Type 0} (m : Meaning) (b : Bool) → b ≡ calls_through_index m → b ≡ true → IsTrue false ↔ (KeepsPointer m × p)
steps_pointer_first m b e h = (λ q. absurd (false≢true q), λ k. absurd (true≢false (sym h ∙ (keeps_pointer m b e).0 k.0)))

pub and_pointer : {p : Type 0} (m : Meaning) (b t : Bool) → b ≡ calls_through_index m → b ≡ false → IsTrue t ↔ p → IsTrue t ↔ (KeepsPointer m × p)
and_pointer m b t e h told = (λ q. ((keeps_pointer m b e).1 h, told.0 q), λ k. told.1 k.1)

-- In a routine, whose writes are at hand.
pub covers_some : (c : Certificate) (o : Routine) (run e : ℕ) (own writes : Words) (a b t : Bool) → o ≡ Some run → own ≡ writes_of c o → writes ≡ c.writes e →
    a ≡ writes run → a ≡ false → b ≡ own e → b ≡ true → (IsTrue t ↔ IsWithin writes own) → IsTrue t ↔ CoversCallee c o e
covers_some c o run e own writes a b t is mine theirs at not_own entry is_entry told =
    let here : own ≡ c.writes run = mine ∙ ap (λ (x : Routine). writes_of c x) is in
    let within : IsTrue t ↔ IsWithin (c.writes e) (c.writes run) = subst (λ w. IsTrue t ↔ IsWithin w (c.writes run)) theirs (subst (λ w. IsTrue t ↔ IsWithin writes w) here told) in
    subst (λ x. IsTrue t ↔ CoversCallee c x e) (sym is) (
      λ q. record {
        writes = within.0 q;
        entry = ap (λ (w : Words). w e) (sym here) ∙ (sym entry ∙ is_entry);
        own = ap (λ (w : Words). w run) (sym theirs) ∙ (sym at ∙ not_own);
      },
      λ k. within.1 k.writes,
    )

-- Where a fact lands, by equal parts.
pub lands_equally : (j : Case) {r s : Routine} {a b : ℕ} {f g : Fact} (t : Bool) → r ≡ s → a ≡ b → f ≡ g → IsTrue t ↔ LandsAt j r a f → IsTrue t ↔ LandsAt j s b g
lands_equally j {r} {s} {a} {b} {f} {g} t same at fact told =
    subst (λ x. IsTrue t ↔ LandsAt j x b g) same (subst (λ x. IsTrue t ↔ LandsAt j r x g) at (subst (λ x. IsTrue t ↔ LandsAt j r a x) fact told))

-- The address after a return.
pub return_place : (a o i k n : ℕ) → i ≡ (a + 1) % 4096 → k ≡ o → n ≡ (i + k) % 4096 → n ≡ plus (a + 1) o
return_place a o i k n first same next = omega (arith, first, same, next)

-- An exit whose sites have the address, and one whose sites lack it.
pub lands_if : {p : Type 0} (s : Words) (x : Fact) (a : ℕ) (b t : Bool) → b ≡ s a → s ≡ x.sites → b ≡ true → IsTrue t ↔ p → IsTrue t ↔ (x.sites a ≡ true → p)
lands_if s x a b t at is has told = (λ q h. told.0 q, λ l. told.1 (l (ap (λ (w : Words). w a) (sym is) ∙ (sym at ∙ has))))

pub lands_without : {p : Type 0} (s : Words) (x : Fact) (a : ℕ) (b : Bool) → b ≡ s a → s ≡ x.sites → b ≡ false → IsTrue true ↔ (x.sites a ≡ true → p)
lands_without s x a b at is lacks = (λ q h. absurd (true≢false (sym h ∙ (ap (λ (w : Words). w a) (sym is) ∙ (sym at ∙ lacks)))), λ l. refl)

-- One exit after another.
module _ (j : Case) (r : Routine) (a e o : ℕ) (f : Fact) where
  abbrev each : List Fact → Type 0
  each xs = EachLandsAfter j r a e o f xs

  abbrev pub EachBehind : List Fact → ℕ → Type 0
  EachBehind xs i = each (drop i xs) ↔ each xs

  pub one_lands : (xs : List Fact) (i : ℕ) (x : Fact) → i < length xs → x ≡ fact_at xs i → LandsWith j r a (j.certificate.writes e) o f x → EachBehind xs i → EachBehind xs (i + 1)
  one_lands xs i x lt is lands h = (
    λ k. h.0 (subst each (sym (fact_dropped xs i lt)) (subst (LandsWith j r a (j.certificate.writes e) o f) is lands, k)),
    λ k. (subst each (fact_dropped xs i lt) (h.1 k)).1,
  )

  pub one_lacks : (xs : List Fact) (i : ℕ) (x : Fact) → i < length xs → x ≡ fact_at xs i → (LandsWith j r a (j.certificate.writes e) o f x → ⊥) → EachBehind xs i → IsTrue false ↔ each xs
  one_lacks xs i x lt is not h = (
    λ q. absurd (false≢true q),
    λ k. absurd (not (subst (LandsWith j r a (j.certificate.writes e) o f) (sym is) (subst each (fact_dropped xs i lt) (h.1 k)).0)),
  )

  pub all_land : (xs : List Fact) (i : ℕ) → length xs ≤ i → EachBehind xs i → IsTrue true ↔ each xs
  all_land xs i past h = (λ q. h.0 (subst each (sym (drop_of_length-le xs past)) tt), λ k. refl)

-- Offset after offset: those before one, of which some have no exit.
abbrev pub LandsBefore : Case → Routine → ℕ → ℕ → Fact → ℕ → Type 0
LandsBefore j r a e f n = (o : ℕ) → o < n → o < 64 → LandsBy j r a e o f

no_exit : (j : Case) (r : Routine) (a e o : ℕ) (f : Fact) → has_any (j.certificate.exits e o) ≡ false → LandsBy j r a e o f
no_exit j r a e o f none = subst (EachLandsAfter j r a e o f) (sym (ap (λ (xs : List Fact). sited j.certificate.rules (j.certificate.sites e) xs) (is_none (j.certificate.exits e o) none) ∙ nothing_sited)) tt
  where
    is_none : (xs : List Fact) → has_any xs ≡ false → xs ≡ []
    is_none [] h = refl
    is_none (x ∷ xs) h = absurd (true≢false h)

    nothing_sited : sited j.certificate.rules (j.certificate.sites e) [] ≡ []
    nothing_sited = go j.certificate.rules
      where
        go : (rules : Rules) → sited rules (j.certificate.sites e) [] ≡ []
        go OfSums = refl
        go OfEquations = refl

pub lands_further : (j : Case) (r : Routine) (a e n o : ℕ) (f : Fact) → IsFirstFrom n (λ x. has_any (j.certificate.exits e x)) o → LandsBy j r a e o f → LandsBefore j r a e f n → LandsBefore j r a e f (o + 1)
lands_further j r a e n o f first lands before x lt small = elim (cases_lt x n) [
  | inl l ↦ before x l small
  | inr g ↦ elim (cases_lt x o) [
    | inl under ↦ no_exit j r a e x f (first.before x g under)
    | inr past ↦ (let q : o ≡ x = omega (arith, lt, past) in subst (λ y. LandsBy j r a e y f) q lands)
  ]
]

pub lands_everywhere : (j : Case) (r : Routine) (a e n : ℕ) (f : Fact) → HasNoneFrom n (λ x. has_any (j.certificate.exits e x)) → LandsBefore j r a e f n → IsTrue true ↔ LandsAfter j r a e f
lands_everywhere j r a e n f none before = (
  λ q o small. elim (cases_lt o n) [ inl l ↦ before o l small | inr g ↦ no_exit j r a e o f (none o g (omega (arith, small))) ],
  λ l. refl,
)

pub lacks_one : (j : Case) (r : Routine) (a e o : ℕ) (f : Fact) → o < 64 → (LandsBy j r a e o f → ⊥) → IsTrue false ↔ LandsAfter j r a e f
lacks_one j r a e o f small not = (λ q. absurd (false≢true q), λ l. absurd (not (l o small)))

-- The offset that a call has.
pub first_offset : with_word 0 nothing ≡ one 0
first_offset = fun_ext at_each
  where
    at_each : (o : ℕ) → with_word 0 nothing o ≡ one 0 o
    at_each o = search

pub is_called_from : (a : ℕ) (f g h k : Fact) (sites none some : Words) → g ≡ f → sites ≡ one a → h ≡ record g { sites = sites } → none ≡ nothing → some ≡ with_word 0 none → k ≡ record h { offsets = some } → k ≡ called_from a f
is_called_from a f g h k sites none some copied at sited empty first counted =
    rw (counted, first, empty, first_offset, sited, at, copied) refl

pub joined_by : (rules own : Rules) (f x g : Fact) (written : Words) → own ≡ rules → g ≡ joined own f x written → g ≡ joined rules f x written
joined_by rules own f x g written same is = is ∙ ap (λ (k : Rules). joined k f x written) same

-- A return by an offset.
pub is_undeclared : (j : Case) (e o k : ℕ) (f : Fact) (b : Bool) → k ≡ o → b ≡ j.declaration.offset e k → b ≡ false → IsTrue false ↔ MayReturn j e f o
is_undeclared j e o k f b same declared lacks = (λ q. absurd (false≢true q), λ m. absurd (true≢false (sym m.0 ∙ (ap (λ i. j.declaration.offset e i) (sym same) ∙ (sym declared ∙ lacks)))))

pub returns_by : (j : Case) (e o k : ℕ) (f : Fact) (b t : Bool) → k ≡ o → b ≡ j.declaration.offset e k → b ≡ true → IsTrue t ↔ LandsAtExit j e o f → IsTrue t ↔ MayReturn j e f o
returns_by j e o k f b t same declared is told = (
  λ q. (ap (λ i. j.declaration.offset e i) (sym same) ∙ (sym declared ∙ is), told.0 q),
  λ m. told.1 m.1,
)

-- A return by an offset that the fact lacks, or has.
pub returns_lacking : (j : Case) (e o : ℕ) (f : Fact) (b : Bool) → b ≡ f.offsets o → b ≡ false → IsTrue true ↔ ReturnsBy j e f o
returns_lacking j e o f b same lacks = (λ q has. absurd (true≢false (sym has ∙ (sym same ∙ lacks))), λ r. refl)

pub returns_having : (j : Case) (e o : ℕ) (f : Fact) (b t : Bool) → b ≡ f.offsets o → b ≡ true → IsTrue t ↔ MayReturn j e f o → IsTrue t ↔ ReturnsBy j e f o
returns_having j e o f b t same has told = (λ q h. told.0 q, λ r. told.1 (r (sym same ∙ has)))

-- A word that returns through no entry.
pub returns_none : (j : Case) (r : Routine) (f : Fact) (m : Meaning) → None ≡ returned_through j.declaration m → IsTrue true ↔ ReturnsWell j r f m
returns_none j r f (Jmp i c) h = (λ q is entry. absurd (none_there i (j.declaration.entry c) is entry h), λ w. refl)
  where
    none_there : (x y : Bool) → x ≡ true → y ≡ true → None ≡ (if x && y then Some c else None) → ⊥
    none_there true true p q e = cc
    none_there true false p q e = false≢true q
    none_there false y p q e = false≢true p
returns_none j r f _ h = (λ q. tt, λ w. refl)

some_none : {e : ℕ} → Some e ≡ None → ⊥
some_none h = cc

-- A word that returns through an entry.
pub returns_some : (j : Case) (r : Routine) (f : Fact) (e : ℕ) (m : Meaning) (t : Bool) → Some e ≡ returned_through j.declaration m → IsTrue t ↔ ReturnsThrough j r e f → IsTrue t ↔ ReturnsWell j r f m
returns_some j r f e (Jmp i c) t h told =
    let one : (i ≡ true) × (j.declaration.entry c ≡ true) × (e ≡ c) = some_there i (j.declaration.entry c) h in (
      λ q is entry. subst (λ x. ReturnsThrough j r x f) one.2 (told.0 q),
      λ w. told.1 (subst (λ x. ReturnsThrough j r x f) (sym one.2) (w one.0 one.1)),
    )
  where
    some_there : (x y : Bool) → Some e ≡ (if x && y then Some c else None) → (x ≡ true) × (y ≡ true) × (e ≡ c)
    some_there true true p = (refl, refl, cc)
    some_there true false p = absurd cc
    some_there false y p = absurd cc
returns_some j r f e _ t h told = absurd (some_none h)

-- Where the fact lands among the exits of its own routine.
pub lands_among : (j : Case) (r : Routine) (e o : ℕ) (f g : Fact) (p : Place) (s : Words) (t : Bool) → p ≡ place_in j r → r ≡ Some e → g ≡ f → s ≡ sites_of j.certificate r →
    IsTrue t ↔ Lands p g (sited j.certificate.rules s (j.certificate.exits e o)) → IsTrue t ↔ LandsAtExit j e o f
lands_among j r e o f g p s t place own same sites told =
    let there : p ≡ place_in j (Some e) = place ∙ ap (λ (x : Routine). place_in j x) own in
    let at : s ≡ j.certificate.sites e = sites ∙ ap (λ (x : Routine). sites_of j.certificate x) own in
    subst (λ (ys : List Fact). IsTrue t ↔ Lands (place_in j (Some e)) f ys) (ap (λ (w : Words). sited j.certificate.rules w (j.certificate.exits e o)) at)
    (subst (λ (x : Fact). IsTrue t ↔ Lands (place_in j (Some e)) x (sited j.certificate.rules s (j.certificate.exits e o))) same
    (subst (λ (x : Place). IsTrue t ↔ Lands x g (sited j.certificate.rules s (j.certificate.exits e o))) there told))
