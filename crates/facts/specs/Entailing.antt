-- Entailment part by part, as it is tested.
use Rattle.std.specs.Prelude.{◌≡◌, ℕ, ◌<◌, true, Some, List, [], ◌∷◌}
use Rattle.wordset.specs.Words.{minus, Words, only, IsWithin, IsLinkWithin}
use Rattle.domain.specs.Locations.{Location, Ac, Cell}
use Rattle.domain.specs.TrackedCells.{TrackedCell}
use Rattle.domain.specs.Chains.{Chain, gives}
use Rattle.domain.specs.Facts.{Fact, Place}
use Rattle.domain.specs.Narrowing.{words_known}
use Rattle.facts.specs.Entailment.{EachGives}

-- Each entry of the list allows what the fact leaves possible to its cell.
abbrev pub EachWithin : Place → Fact → List TrackedCell → Type 0
EachWithin pl a [] = Unit {0}
EachWithin pl a (t ∷ ts) = IsWithin (words_known pl a (Cell t.address)) t.set × EachWithin pl a ts

-- All but cells, relations and chains is allowed by the other fact.
pub record EntailsRegisters (pl : Place) (a b : Fact) : Type 0 where
  pub ac : IsWithin (words_known pl a Ac) (b.set Ac)
  pub mq : IsWithin a.mq b.mq
  pub link : IsLinkWithin a.link b.link
  pub sites : IsWithin a.sites b.sites
  pub offsets : (o : ℕ) → o < 64 → a.offsets o ≡ true → b.offsets o ≡ true

-- A chain gives this pair of one word of its cell, if these allow it: words of the accumulator, links and chains.
abbrev pub GivesIfAllowed : Words → Words → List Chain → Chain → ℕ → ℕ → ℕ → Type 0
GivesIfAllowed accumulators links own c v w l =
    accumulators w ≡ true → links l ≡ true → EachGives c.cell v w l own → gives c v w l ≡ true

-- It gives each such pair of the word.
abbrev pub GivesAllowed : Words → Words → List Chain → Chain → ℕ → Type 0
GivesAllowed accumulators links own c v =
    (w l : ℕ) → w < 4096 → l < 2 → GivesIfAllowed accumulators links own c v w l

-- One word is left to each of two names, and their difference is in the set.
abbrev pub ShowsOfNames : Place → Fact → Location → Location → Words → Type 0
ShowsOfNames pl a m n set =
    (x : ℕ) × (y : ℕ) × (only (words_known pl a m) ≡ Some x) × (only (words_known pl a n) ≡ Some y) × (set (minus x y) ≡ true)
