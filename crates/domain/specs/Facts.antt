-- Facts: what is claimed of each state in which the program counter is at an address, and of the call in which it is.
use Rattle.std.specs.Prelude.{◌≡◌, ℕ, ◌+◌, ◌-◌, ◌<◌, ◌≤◌, true, ◌⊎◌, Some, None, List, [], ◌∷◌}
use Rattle.wordset.specs.Words.{Words}
use Rattle.processor.specs.Cells.{Cells}
use Rattle.processor.specs.Machine.{State}
use Rattle.processor.specs.Runs.{Image}
use Rattle.declaration.specs.Declaration.{Routine, Declaration}
use Rattle.policy.specs.Calls.{Calls}
use Rattle.domain.specs.Locations.{Location, Ac, Cell, Values, values, KeepsRest}
use Rattle.domain.specs.Terms.{Sum, sum_value}
use Rattle.domain.specs.Chains.{Chain, gives}

-- A relation: the sum is a word of the set.
pub record Relation : Type 0 where
  pub sum : Sum
  pub set : Words

-- A fact: for each name the words that it may hold, which are all words for a cell of which nothing is said; relations of
-- sums of two and three terms; chains; the words of MQ and the links that are possible; the sites from which the running
-- routine may have been called, and how far its return word may have been incremented.
pub record Fact : Type 0 where
  pub set : Location → Words
  pub relations : List Relation
  pub chains : List Chain
  pub mq : Words
  pub link : Words
  pub sites : Words
  pub offsets : Words

-- By which rules facts are taken further from one instruction to the next. Versions 1 and 2 of certificates know equations
-- alone, which are relations of a difference to one word; version 3 knows sums. Where the rules differ, those of equations
-- know less, so that each certificate keeps its verdict.
pub data Rules : Type 0 where
  OfEquations : Rules
  OfSums : Rules

-- Where a fact stands, beside its address: the tape, the declaration, the routine whose body has the address, and the
-- rules of the certificate.
pub record Place : Type 0 where
  pub image : Image
  pub declaration : Declaration
  pub routine : Routine
  pub rules : Rules

-- A relation is true: its sum is in its set.
abbrev pub IsTrueOf : Values → Cells → Relation → Type 0
IsTrueOf v start r = r.set (sum_value v start r.sum) ≡ true

-- All relations are true.
abbrev pub AllTrue : Values → Cells → List Relation → Type 0
AllTrue v start [] = Unit {0}
AllTrue v start (r ∷ rs) = IsTrueOf v start r × AllTrue v start rs

-- A chain is true: it gives the accumulator and the link of the word of its cell.
abbrev pub IsGiven : Values → ℕ → Chain → Type 0
IsGiven v link c = gives c (v (Cell c.cell)) (v Ac) link ≡ true

-- All chains are true.
abbrev pub AllGiven : Values → ℕ → List Chain → Type 0
AllGiven v link [] = Unit {0}
AllGiven v link (c ∷ cs) = IsGiven v link c × AllGiven v link cs

-- What a fact says of the names and of the link is so.
pub record Holds (f : Fact) (v : Values) (start : Cells) (link : ℕ) : Type 0 where
  pub sets : (n : Location) → f.set n (v n) ≡ true
  pub relations : AllTrue v start f.relations
  pub chains : AllGiven v link f.chains

-- The greatest address from which a routine may be called. Return words are incremented by at most 7 by the rules of
-- equations, and stay below 10000 there if no site is above 7767. The rules of sums test that a word of 7777 is not counted.
abbrev pub last_site : Rules → ℕ
last_site OfEquations = 4087
last_site OfSums = 4094

-- The running routine's return word is what its call stored plus one of the fact's offsets, which are at most 77.
abbrev pub OwnWord : Fact → Cells → Calls → Type 0
OwnWord f memory [] = Unit {0}
OwnWord f memory (k ∷ ks) = (o : ℕ) × (o < 64) × (f.offsets o ≡ true) × (memory k.entry ≡ k.after + o)

-- The place's routine is the running one: main with no call open, or the one called last, from one of the fact's sites.
abbrev pub StandsIn : Place → Fact → Calls → Type 0
StandsIn pl f [] = pl.routine ≡ None
StandsIn pl f (k ∷ ks) =
    (pl.routine ≡ Some k.entry) × (0 < k.after) × (k.after ≤ last_site pl.rules + 1) × (f.sites (k.after - 1) ≡ true)

-- A fact holds of the memory at the start, a state and a call stack.
pub record Means (pl : Place) (start : Cells) (f : Fact) (s : State) (ks : Calls) : Type 0 where
  pub holds : Holds f (values pl.declaration start s.ac s.memory) start s.link
  pub mq : f.mq s.mq ≡ true
  pub link : f.link s.link ≡ true
  pub rest : KeepsRest pl.declaration start s.memory
  pub stands : StandsIn pl f ks
  pub own : OwnWord f s.memory ks

-- One of the facts holds.
abbrev pub SomeMeans : Place → Cells → List Fact → State → Calls → Type 0
SomeMeans pl start [] s ks = ⊥
SomeMeans pl start (f ∷ fs) s ks = Means pl start f s ks ⊎ SomeMeans pl start fs s ks
