-- What the code has asked so far, in the order of the conditions.
use Rattle.std.specs.Prelude.{◌≡◌, ℕ, ◌<◌, ◌≤◌, true, ◌⊎◌, Some, List, [], ◌∷◌}
use Rattle.wordset.specs.Words.{how_many}
use Rattle.declaration.specs.Declaration.{Routine}
use Rattle.domain.specs.Facts.{Fact}
use Rattle.transfer.specs.References.{possible}
use Rattle.facts.specs.declared.Condition.{Condition}
use Rattle.certificate_lines.specs.Certificate.{claimed, names_routine}
use Rattle.judge.specs.ConditionOrder.{place_among}
use Rattle.judge.specs.FewWords.{asks_few}
use Rattle.judge.specs.Landing.{Case, place_in, sited, sites_of, exits_of, asked}
use Rattle.facts.specs.Conditions.{EachIsHeldBy}
use Rattle.judge.specs.Conditions.{HoldsAt, HoldsForWords, EachFact}
use Rattle.judge.specs.Bodies.{IsOfBody}

-- The routine and exit lines at an address are at an entry.
abbrev pub RoutinesArePlaced : Case → ℕ → Type 0
RoutinesArePlaced j a = names_routine j.certificate a ≡ true → j.declaration.entry a ≡ true

-- By the fact few words are possible.
abbrev pub HasFew : Case → Routine → ℕ → Fact → Type 0
HasFew j r a f = how_many 4096 (possible (place_in j r) f a) ≤ 64

-- The condition holds of the fact, for each word that is possible by it.
abbrev pub HoldsOfFact : Case → Condition → Routine → ℕ → Fact → Type 0
HoldsOfFact j v r a f = (asks_few v ≡ true → HasFew j r a f) × HoldsForWords j v r a f

-- The facts of the list for which conditions are checked.
abbrev pub asked_of : Case → Routine → List Fact → List Fact
asked_of j r fs = asked j.certificate.rules j.image (sited j.certificate.rules (sites_of j.certificate r) fs)

-- The condition holds of each of these facts of which it is asked.
abbrev pub HoldsOfFacts : Case → Routine → ℕ → List Fact → Condition → Type 0
HoldsOfFacts j r a fs v = EachFact (HoldsOfFact j v r a) (asked_of j r fs)

-- This is the place of the first condition on words that fails before the limit, or it is the limit.
pub record IsLeastPlace (holds : Condition → Type 0) (limit place : ℕ) : Type 0 where
  pub low : 2 ≤ place
  pub high : place ≤ limit
  pub before : (v : Condition) → 2 ≤ place_among v → place_among v < place → holds v
  pub fails : place < limit → (v : Condition) → place_among v ≡ place → holds v → ⊥

-- So it is of one claimed fact; or the fact is not where it may be, and the place is that of the condition on lines.
abbrev pub IsLeastOf : Case → Routine → ℕ → Fact → ℕ → ℕ → Type 0
IsLeastOf j r a f limit place =
    ((place ≡ 1) × (IsOfBody j.certificate.rules r f → ⊥)) ⊎
    (IsOfBody j.certificate.rules r f × IsLeastPlace (HoldsOfFacts j r a (f ∷ [])) limit place)

-- And so it is of some claimed facts.
abbrev pub IsLeastOfSome : Case → Routine → ℕ → List Fact → ℕ → Type 0
IsLeastOfSome j r a fs place =
    ((place ≡ 1) × (EachFact (IsOfBody j.certificate.rules r) fs → ⊥)) ⊎
    (EachFact (IsOfBody j.certificate.rules r) fs × IsLeastPlace (HoldsOfFacts j r a fs) 16 place)

-- And of all facts at the address.
abbrev pub IsLeastOfAll : Case → Routine → ℕ → ℕ → Type 0
IsLeastOfAll j r a place = IsLeastOfSome j r a (j.certificate.facts a) place

-- By an exit all is so that is to hold when the routine returns so, if conditions are checked for it; and by each exit for one
-- offset.
abbrev pub ExitIsHeld : Case → ℕ → ℕ → Fact → Type 0
ExitIsHeld j e o x =
    EachFact (λ y. EachIsHeldBy (place_in j (Some e)) y e o j.declaration.returns) (asked j.certificate.rules j.image (x ∷ []))

abbrev pub ExitsAreHeldBy : Case → ℕ → ℕ → Type 0
ExitsAreHeldBy j e o =
    EachFact (λ y. EachIsHeldBy (place_in j (Some e)) y e o j.declaration.returns) (asked j.certificate.rules j.image (exits_of j e o))

-- The conditions at an address from one place among them up to another hold.
abbrev pub HoldsBetween : Case → ℕ → ℕ → ℕ → Type 0
HoldsBetween j m n a = (v : Condition) → m ≤ place_among v → place_among v < n → HoldsAt j v a

-- The condition fails at the address, and those from a place among them up to it hold.
pub record FailsFirst (j : Case) (m a : ℕ) (v : Condition) : Type 0 where
  pub past : m ≤ place_among v
  pub fails : HoldsAt j v a → ⊥
  pub before : HoldsBetween j m (place_among v) a

-- A line has the address, and the condition fails there first.
pub record FailsAtLine (j : Case) (a : ℕ) (v : Condition) : Type 0 where
  pub line : claimed j.certificate a ≡ true
  pub first : FailsFirst j 1 a v
