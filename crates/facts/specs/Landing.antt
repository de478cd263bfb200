-- Landing part by part, as it is tested.
use Rattle.std.specs.Prelude.{◌≡◌, ℕ, ◌<◌, true, ◌⊎◌, List, [], ◌∷◌, get_or}
use Rattle.wordset.specs.Words.{all_words}
use Rattle.domain.specs.Locations.{Location}
use Rattle.domain.specs.Facts.{Fact, Place}
use Rattle.domain.specs.FactInCode.{nothing_known}
use Rattle.domain.specs.Narrowing.{narrowed}
use Rattle.facts.specs.Entailment.{Entails, IsVoid, met_at, TakesWord, PartLands, with_one_link}

-- The fact at a place of a list.
abbrev pub fact_at : List Fact → ℕ → Fact
fact_at fs at = get_or fs at nothing_known

-- What another fact's set of a name leaves of a fact entails that one, or no state satisfies it.
abbrev pub Takes : Place → Location → Fact → Fact → Type 0
Takes pl n a b = IsVoid (met_at pl n a b) ⊎ Entails pl (met_at pl n a b) b

-- It has this word of the name, and takes what its set leaves.
abbrev pub TakesAt : Place → Location → ℕ → Fact → Fact → Type 0
TakesAt pl n v a b = (b.set n v ≡ true) × Takes pl n a b

-- The fact is split among those of the list by this name.
abbrev pub IsSplitBy : Place → Location → Fact → List Fact → Type 0
IsSplitBy pl n a among = (v : ℕ) → v < 4096 → a.set n v ≡ true → TakesWord pl n v a among

-- Each fact of the list allows all words to a name.
abbrev pub AllowAll : Location → List Fact → Type 0
AllowAll n [] = Unit {0}
AllowAll n (f ∷ fs) = (f.set n ≡ all_words) × AllowAll n fs

-- The fact, narrowed once more, entails one of the list, or no state satisfies it then and the list has one.
abbrev pub IsTakenWhole : Place → Fact → List Fact → Type 0
IsTakenWhole pl a [] = ⊥
IsTakenWhole pl a (b ∷ bs) =
    (IsVoid (narrowed pl.image a) ⊎ Entails pl (narrowed pl.image a) b) ⊎ IsTakenWhole pl a bs

-- Under one of its links the fact lands.
abbrev pub LandsUnder : Place → ℕ → Fact → List Fact → Type 0
LandsUnder pl l f among = f.link l ≡ true → PartLands pl (with_one_link pl l f) among

-- Under one of its links no state satisfies the fact.
abbrev pub IsIdleUnder : Place → ℕ → Fact → Type 0
IsIdleUnder pl l f = f.link l ≡ true → IsVoid (with_one_link pl l f)
