-- When one fact says at least as much as another, and when it lands among several.
use Rattle.std.specs.Prelude.{◌≡◌, ℕ, ◌<◌, true, ◌⊎◌, Some, List, [], ◌∷◌}
use Rattle.wordset.specs.Words.{minus, one, meet, IsWithin, IsLinkWithin, SameWords, only}
use Rattle.domain.specs.Locations.{Location, Ac, Cell}
use Rattle.domain.specs.Terms.{difference_of}
use Rattle.domain.specs.Chains.{Chain, gives}
use Rattle.domain.specs.Facts.{Relation, Fact, Place, Rules, OfEquations, OfSums}
use Rattle.domain.specs.Adding.{with_name, is_void}
use Rattle.domain.specs.Knowing.{said_of}
use Rattle.domain.specs.Narrowing.{narrowed, words_known}

-- The relation is one of the list: one has its sum and its words.
abbrev pub Among : Relation → List Relation → Type 0
Among r [] = ⊥
Among r (g ∷ gs) = ((g.sum ≡ r.sum) × SameWords g.set r.set) ⊎ Among r gs

-- By the rules of equations x - y in {k} is known where one word is left to each of the two names, and these fulfil it.
abbrev pub ShowsDifference : Place → Fact → Relation → Type 0
ShowsDifference pl a r =
    (m : Location) × (n : Location) × (x : ℕ) × (y : ℕ) × (r.sum ≡ difference_of m n) ×
    (only (words_known pl a m) ≡ Some x) × (only (words_known pl a n) ≡ Some y) × (r.set (minus x y) ≡ true)

-- The fact knows the relation. By the rules of sums, what it says of the sum is within the set. By those of equations, the
-- relation is one of its own, or one word for each of the two names shows it.
abbrev pub KnowsBy : Rules → Place → Fact → Relation → Type 0
KnowsBy OfSums pl a r = IsWithin (said_of pl.image a r.sum) r.set
KnowsBy OfEquations pl a r = Among r a.relations ⊎ ShowsDifference pl a r

-- It knows each relation of the list.
abbrev pub KnowsAll : Place → Fact → List Relation → Type 0
KnowsAll pl a [] = Unit {0}
KnowsAll pl a (r ∷ rs) = KnowsBy pl.rules pl a r × KnowsAll pl a rs

-- Each of the fact's own chains on the cell gives this of its word, if there is any.
abbrev pub EachGives : ℕ → ℕ → ℕ → ℕ → List Chain → Type 0
EachGives x v w l [] = Unit {0}
EachGives x v w l (c ∷ cs) = (c.cell ≡ x → gives c v w l ≡ true) × EachGives x v w l cs

-- The fact shows that a chain is true: whatever word of the chain's cell, whatever word of AC and whatever link it allows
-- together, the chain gives the two of the cell's word.
abbrev pub ShowsChain : Place → Fact → Chain → Type 0
ShowsChain pl a c =
    (v w l : ℕ) → v < 4096 → w < 4096 → l < 2 →
    words_known pl a (Cell c.cell) v ≡ true → words_known pl a Ac w ≡ true → a.link l ≡ true →
    EachGives c.cell v w l a.chains → gives c v w l ≡ true

-- It shows each chain of the list.
abbrev pub ShowsChains : Place → Fact → List Chain → Type 0
ShowsChains pl a [] = Unit {0}
ShowsChains pl a (c ∷ cs) = ShowsChain pl a c × ShowsChains pl a cs

-- The fact a entails b: what a leaves possible b allows. By the rules of sums a is a narrowed fact.
pub record Entails (pl : Place) (a b : Fact) : Type 0 where
  pub sets : (n : Location) → IsWithin (words_known pl a n) (b.set n)
  pub mq : IsWithin a.mq b.mq
  pub link : IsLinkWithin a.link b.link
  pub relations : KnowsAll pl a b.relations
  pub chains : ShowsChains pl a b.chains
  pub sites : IsWithin a.sites b.sites
  pub offsets : (o : ℕ) → o < 64 → a.offsets o ≡ true → b.offsets o ≡ true

-- The fact entails one of the list.
abbrev pub EntailsOne : Place → Fact → List Fact → Type 0
EntailsOne pl a [] = ⊥
EntailsOne pl a (b ∷ bs) = Entails pl a b ⊎ EntailsOne pl a bs

-- No state satisfies the fact.
abbrev pub IsVoid : Fact → Type 0
IsVoid f = is_void f ≡ true

-- The fact with a name's set met with that of another fact, narrowed.
abbrev pub met_at : Place → Location → Fact → Fact → Fact
met_at pl n a b = narrowed pl.image (with_name n (meet (a.set n) (b.set n)) a)

-- One of the facts has this word in the name's set, and what is left of the fact by this name's set of it entails it, or is none.
abbrev pub TakesWord : Place → Location → ℕ → Fact → List Fact → Type 0
TakesWord pl n v a [] = ⊥
TakesWord pl n v a (b ∷ bs) =
    ((b.set n v ≡ true) × (IsVoid (met_at pl n a b) ⊎ Entails pl (met_at pl n a b) b)) ⊎ TakesWord pl n v a bs

-- The fact is split among those of the list by a name: one of them takes each word that the name may have.
abbrev pub IsSplit : Place → Fact → List Fact → Type 0
IsSplit pl a among =
    (n : Location) × ((v : ℕ) → v < 4096 → a.set n v ≡ true → TakesWord pl n v a among)

-- A narrowed fact of one link lands among those of the list: no state satisfies it, it entails one of them, or it is split.
abbrev pub PartLands : Place → Fact → List Fact → Type 0
PartLands pl a among = IsVoid a ⊎ (EntailsOne pl a among ⊎ IsSplit pl a among)

-- The fact with one link alone, narrowed.
abbrev pub with_one_link : Place → ℕ → Fact → Fact
with_one_link pl l f = narrowed pl.image (record f { link = one l })

-- The fact lands among those of the list: by the rules of sums for each of its links alone. By those of equations it entails one.
abbrev pub LandsBy : Rules → Place → Fact → List Fact → Type 0
LandsBy OfSums pl f among = (l : ℕ) → l < 2 → f.link l ≡ true → PartLands pl (with_one_link pl l f) among
LandsBy OfEquations pl f among = EntailsOne pl f among

-- It lands among them, by the rules of the place.
abbrev pub Lands : Place → Fact → List Fact → Type 0
Lands pl f among = LandsBy pl.rules pl f among

-- Nothing need be required of the fact: by the rules of sums, no state satisfies it under any link.
abbrev pub IsIdle : Rules → Place → Fact → Type 0
IsIdle OfSums pl f = (l : ℕ) → l < 2 → f.link l ≡ true → IsVoid (with_one_link pl l f)
IsIdle OfEquations pl f = ⊥
