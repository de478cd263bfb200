-- One of the facts among which a fact lands holds of each state of the fact.
use Rattle.std.proofs.Common.{◌≡◌, true, List, [], ◌∷◌, refl, inl, inr}
use Rattle.std.proofs.lemmas.Bool.{and_from, cond_both, eq-eqb}
use Rattle.wordset.specs.Words.{Words, one, meet}
use Rattle.processor.specs.Cells.{Cells}
use Rattle.processor.specs.Machine.{State}
use Rattle.policy.specs.Calls.{Calls}
use Rattle.domain.specs.Locations.{Location, Values, values, same}
use Rattle.domain.specs.Facts.{Fact, Rules, OfEquations, OfSums, Place, Means, SomeMeans}
use Rattle.domain.specs.Adding.{with_name}
use Rattle.domain.specs.Laws.{IsBegun}
use Rattle.domain.proofs.SumLemmas.{same_name}
use Rattle.domain.proofs.NarrowingLemmas.{narrowed_holds, values_are, void_never_holds}
use Rattle.facts.specs.States.{IsState}
use Rattle.facts.specs.Entailment.{EntailsOne, met_at, TakesWord, PartLands, with_one_link, LandsBy, IsIdle}
use Rattle.facts.specs.Laws.{OneLandedHolds, IdleNeverHolds}
use Rattle.facts.proofs.EntailedLemmas.{entailed_facts_hold}

module _ (pl : Place) (start : Cells) (begun : IsBegun pl.image start) (s : State) (ss : IsState s) (ks : Calls) where
  some_entailed : (a : Fact) (among : List Fact) → EntailsOne pl a among → Means pl start a s ks → SomeMeans pl start among s ks
  some_entailed a [] en h = absurd en
  some_entailed a (b ∷ bs) en h = elim en [ inl e ↦ inl (entailed_facts_hold pl start a b s ks begun ss e h) | inr e ↦ inr (some_entailed a bs e h) ]

  -- the part of a fact that another one's set of a name leaves
  met_means : (n : Location) (a b : Fact) → Means pl start a s ks → b.set n (values pl.declaration start s.ac s.memory n) ≡ true → Means pl start (met_at pl n a b) s ks
  met_means n a b h has = narrowed_holds pl start (with_name n (meet (a.set n) (b.set n)) a) s ks begun ss.words ss.ac ss.link (record {
    holds = record {
      sets = λ m. cond_both (same m n) (meet (a.set n) (b.set n)) (a.set m) (λ (chosen : Words). chosen (v m) ≡ true)
          (λ e. let l : m ≡ n = same_name m n e in rw l (and_from _ _ (h.holds.sets n) has))
          (λ e. h.holds.sets m);
      relations = h.holds.relations;
      chains = h.holds.chains;
    };
    mq = h.mq;
    link = h.link;
    rest = h.rest;
    stands = h.stands;
    own = h.own;
  })
    where
      v : Values
      v = values pl.declaration start s.ac s.memory

  some_taken : (n : Location) (a : Fact) (among : List Fact) → TakesWord pl n (values pl.declaration start s.ac s.memory n) a among → Means pl start a s ks → SomeMeans pl start among s ks
  some_taken n a [] t h = absurd t
  some_taken n a (b ∷ bs) t h = elim t [
    | inl x ↦ (let part : Means pl start (met_at pl n a b) s ks = met_means n a b h x.0 in elim x.1 [
      | inl void ↦ absurd (void_never_holds pl start (met_at pl n a b) s ks begun.words ss.words ss.ac ss.link ss.mq void part)
      | inr en ↦ inl (entailed_facts_hold pl start (met_at pl n a b) b s ks begun ss en part)
    ])
    | inr x ↦ inr (some_taken n a bs x h)
  ]

  part_landed : (a : Fact) (among : List Fact) → PartLands pl a among → Means pl start a s ks → SomeMeans pl start among s ks
  part_landed a among lands h = elim lands [
    | inl void ↦ absurd (void_never_holds pl start a s ks begun.words ss.words ss.ac ss.link ss.mq void h)
    | inr more ↦ elim more [
      | inl en ↦ some_entailed a among en h
      | inr split ↦ some_taken split.0 a among (split.1 (values pl.declaration start s.ac s.memory split.0) (values_are pl.declaration start s.ac s.memory begun.words ss.words ss.ac split.0) (h.holds.sets split.0)) h
    ]
  ]

  -- the part of the fact under the link that there is
  one_link_means : (f : Fact) → Means pl start f s ks → Means pl start (with_one_link pl s.link f) s ks
  one_link_means f h = narrowed_holds pl start (record f { link = one s.link }) s ks begun ss.words ss.ac ss.link (record {
    holds = record { sets = h.holds.sets; relations = h.holds.relations; chains = h.holds.chains };
    mq = h.mq;
    link = eq-eqb s.link s.link refl;
    rest = h.rest;
    stands = h.stands;
    own = h.own;
  })

  landed_by : (rules : Rules) (f : Fact) (among : List Fact) → LandsBy rules pl f among → Means pl start f s ks → SomeMeans pl start among s ks
  landed_by OfSums f among lands h = part_landed (with_one_link pl s.link f) among (lands s.link ss.link h.link) (one_link_means f h)
  landed_by OfEquations f among lands h = some_entailed f among lands h

  idle_never : (rules : Rules) (f : Fact) → IsIdle rules pl f → Means pl start f s ks → ⊥
  idle_never OfSums f idle h = void_never_holds pl start (with_one_link pl s.link f) s ks begun.words ss.words ss.ac ss.link ss.mq (idle s.link ss.link h.link) (one_link_means f h)
  idle_never OfEquations f idle h = idle

-- The laws.
pub one_landed_holds : OneLandedHolds
one_landed_holds pl start f among s ks begun ss lands h = landed_by pl start begun s ss ks pl.rules f among lands h

pub idle_never_holds : IdleNeverHolds
idle_never_holds pl start f s ks begun ss idle h = idle_never pl start begun s ss ks pl.rules f idle h
