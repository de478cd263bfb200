-- Of the facts at an address one holds, and of this one a valid certificate says all that is asked, of each word that is possible by it.
use Rattle.std.proofs.Common.{◌≡◌, ℕ, ◌<◌, Bool, true, false, ◌⊎◌, Some, List, [], ◌∷◌, refl, subst, inl, inr}
use Rattle.std.specs.Prelude.{if◌then◌else◌}
use Rattle.instruct.specs.Instructions.{Meaning, meaning_of}
use Rattle.wordset.specs.Words.{Words}
use Rattle.processor.specs.Cells.{Cells}
use Rattle.processor.specs.Machine.{State}
use Rattle.declaration.specs.Declaration.{Routine}
use Rattle.policy.specs.Calls.{Calls}
use Rattle.domain.specs.Facts.{Fact, Place, Rules, OfEquations, OfSums, Means, SomeMeans}
use Rattle.domain.specs.Adding.{is_void}
use Rattle.domain.specs.Narrowing.{narrowed}
use Rattle.domain.specs.Laws.{IsBegun}
use Rattle.facts.specs.States.{IsState}
use Rattle.facts.specs.declared.Condition.{Condition}
use Rattle.facts.specs.declared.Condition.TheVariants.{V3, V4, V5, V6, V7, V8, V9, V10, V11, V12, V13, V14, V15, V16}
use Rattle.transfer.specs.References.{possible}
use Rattle.facts.proofs.WordLemmas.{or_left, or_right, some_from}
use Rattle.domain.proofs.NarrowingLemmas.{narrowed_holds, void_never_holds}
use Rattle.certificate_lines.specs.Certificate.{has_any, has_exits, claimed}
use Rattle.judge.specs.Landing.{Case, place_in, sited, sites_of, facts_in, exits_of, asked, asked_at}
use Rattle.judge.specs.Conditions.{EachFact, HoldsFor, HoldsForWords, HoldsForEach, IsValid}

-- The fact is one of the list.
abbrev pub In : Fact → List Fact → Type 0
In f [] = ⊥
In f (g ∷ gs) = (g ≡ f) ⊎ In f gs

pub each_in : (p : Fact → Type 0) (f : Fact) (fs : List Fact) → EachFact p fs → In f fs → p f
each_in p f [] each i = absurd i
each_in p f (g ∷ gs) each i = elim i [ inl e ↦ subst p e each.0 | inr r ↦ each_in p f gs each.1 r ]

-- A fact of a list that holds.
pub record OneOf (pl : Place) (start : Cells) (fs : List Fact) (s : State) (ks : Calls) : Type 0 where
  pub fact : Fact
  pub among : In fact fs
  pub means : Means pl start fact s ks

pub one_of : (pl : Place) (start : Cells) (fs : List Fact) (s : State) (ks : Calls) → SomeMeans pl start fs s ks → OneOf pl start fs s ks
one_of pl start [] s ks h = absurd h
one_of pl start (f ∷ fs) s ks h = elim h [
  | inl m ↦ record { fact = f; among = inl refl; means = m }
  | inr r ↦ (let o : OneOf pl start fs s ks = one_of pl start fs s ks r in record { fact = o.fact; among = inr o.among; means = o.means })
]

asked_more : (pl : Place) (start : Cells) (f : Fact) (fs : List Fact) (s : State) (ks : Calls) → IsBegun pl.image start → IsState s →
    (SomeMeans pl start fs s ks → SomeMeans pl start (asked OfSums pl.image fs) s ks) → SomeMeans pl start (f ∷ fs) s ks → SomeMeans pl start (asked OfSums pl.image (f ∷ fs)) s ks
asked_more pl start f fs s ks begun ss more h = go (is_void (narrowed pl.image f)) refl
  where
    go : (b : Bool) → is_void (narrowed pl.image f) ≡ b → SomeMeans pl start (if b then asked OfSums pl.image fs else narrowed pl.image f ∷ asked OfSums pl.image fs) s ks
    go true e = elim h [
      | inl m ↦ absurd (void_never_holds pl start (narrowed pl.image f) s ks begun.words ss.words ss.ac ss.link ss.mq e (narrowed_holds pl start f s ks begun ss.words ss.ac ss.link m))
      | inr r ↦ more r
    ]
    go false e = elim h [
      | inl m ↦ inl (narrowed_holds pl start f s ks begun ss.words ss.ac ss.link m)
      | inr r ↦ inr (more r)
    ]

-- One of those holds of which conditions are asked.
pub asked_means : (pl : Place) (start : Cells) (rules : Rules) (fs : List Fact) (s : State) (ks : Calls) → IsBegun pl.image start → IsState s →
    SomeMeans pl start fs s ks → SomeMeans pl start (asked rules pl.image fs) s ks
asked_means pl start OfEquations fs s ks begun ss h = h
asked_means pl start OfSums [] s ks begun ss h = absurd h
asked_means pl start OfSums (f ∷ fs) s ks begun ss h = asked_more pl start f fs s ks begun ss (λ r. asked_means pl start OfSums fs s ks begun ss r) h

-- So there is a line at the address.
some_any : (pl : Place) (start : Cells) (rules : Rules) (sites : Words) (fs : List Fact) (s : State) (ks : Calls) → SomeMeans pl start (sited rules sites fs) s ks → has_any fs ≡ true
some_any pl start OfSums sites [] s ks h = absurd h
some_any pl start OfEquations sites [] s ks h = absurd h
some_any pl start rules sites (f ∷ fs) s ks h = refl

pub is_line : (j : Case) (r : Routine) (start : Cells) (a : ℕ) (s : State) (ks : Calls) → SomeMeans (place_in j r) start (facts_in j r a) s ks → claimed j.certificate a ≡ true
is_line j r start a s ks h =
    let any : has_any (j.certificate.facts a) ≡ true = some_any (place_in j r) start j.certificate.rules (sites_of j.certificate r) (j.certificate.facts a) s ks h in
    or_right (j.certificate.listed a) _ (or_left (has_any (j.certificate.facts a)) _ any)

-- where one of the exits for an offset holds, there is a line at the entry
pub is_exit_line : (j : Case) (e o : ℕ) (start : Cells) (s : State) (ks : Calls) → o < 64 → SomeMeans (place_in j (Some e)) start (exits_of j e o) s ks → claimed j.certificate e ≡ true
is_exit_line j e o start s ks lt h =
    let any : has_any (j.certificate.exits e o) ≡ true = some_any (place_in j (Some e)) start j.certificate.rules (j.certificate.sites e) (j.certificate.exits e o) s ks h in
    let exits : has_exits j.certificate e ≡ true = some_from 64 (λ i. has_any (j.certificate.exits e i)) o lt any in
    or_right (j.certificate.listed e) _ (or_right (has_any (j.certificate.facts e)) (has_exits j.certificate e) exits)

-- All that is asked of a word, by a fact.
pub record Fine (j : Case) (r : Routine) (a : ℕ) (f : Fact) (m : Meaning) : Type 0 where
  pub v3 : HoldsFor j V3 r a f m
  pub v4 : HoldsFor j V4 r a f m
  pub v5 : HoldsFor j V5 r a f m
  pub v6 : HoldsFor j V6 r a f m
  pub v7 : HoldsFor j V7 r a f m
  pub v8 : HoldsFor j V8 r a f m
  pub v9 : HoldsFor j V9 r a f m
  pub v10 : HoldsFor j V10 r a f m
  pub v11 : HoldsFor j V11 r a f m
  pub v12 : HoldsFor j V12 r a f m
  pub v13 : HoldsFor j V13 r a f m
  pub v14 : HoldsFor j V14 r a f m
  pub v15 : HoldsFor j V15 r a f m
  pub v16 : HoldsFor j V16 r a f m

module _ (j : Case) (valid : IsValid j) (r : Routine) (a w : ℕ) (f : Fact) (la : a < 4096) (lw : w < 4096) (body : j.declaration.body r a ≡ true) (line : claimed j.certificate a ≡ true)
    (among : In f (asked_at j r a)) (is_possible : possible (place_in j r) f a w ≡ true) where
  one_fine : (v : Condition) → HoldsForEach j v a → HoldsFor j v r a f (meaning_of j.declaration.profile a w)
  one_fine v each = each_in (HoldsForWords j v r a) f (asked_at j r a) (each r body) among w lw is_possible

  pub all_fine : Fine j r a f (meaning_of j.declaration.profile a w)
  all_fine = record {
    v3 = one_fine V3 (valid V3 a (la, line)).1;
    v4 = one_fine V4 (valid V4 a (la, line));
    v5 = one_fine V5 (valid V5 a (la, line));
    v6 = one_fine V6 (valid V6 a (la, line));
    v7 = one_fine V7 (valid V7 a (la, line));
    v8 = one_fine V8 (valid V8 a (la, line));
    v9 = one_fine V9 (valid V9 a (la, line));
    v10 = one_fine V10 (valid V10 a (la, line));
    v11 = one_fine V11 (valid V11 a (la, line));
    v12 = one_fine V12 (valid V12 a (la, line));
    v13 = one_fine V13 (valid V13 a (la, line));
    v14 = one_fine V14 (valid V14 a (la, line));
    v15 = one_fine V15 (valid V15 a (la, line));
    v16 = one_fine V16 (valid V16 a (la, line)).0;
  }
