-- A fact for which conditions are checked at an address of a body, as the code keeps it.
use Rattle.std.specs.Prelude.{◌≡◌, ℕ, true, IfSome, ◌≤◌}
use Rattle.wordset.specs.Words.{Words}
use Rattle.wordset.specs.Lanes.{words}
use Rattle.instruct.specs.Instructions.{meaning_of}
use Rattle.domain.specs.Facts.{Fact}
use Rattle.domain.specs.FactInCode.{fact_in_code, rules_of}
use Rattle.transfer.specs.References.{possible}
use Rattle.facts.specs.declared.Condition.{Condition}
use Rattle.certificate_lines.specs.Certificate.{Certificate, writes_of}
use Rattle.judge.specs.Landing.{Case, place_in, sites_of}
use Rattle.judge.specs.Conditions.{HoldsFor, HoldsForWords}
use Rattle.judge.specs.Judged.{judged}
use Rattle.judge.specs.Shapes.{IsRoomy}
use Rattle.judge.specs.Caches.{StandsAhead}
use Rattle.judge.specs.Asked.{HasFew, HoldsOfFact}
use Rattle.judge.specs.declared.point.Point.{Point}

-- What is judged there.
abbrev pub case_of : {A C : Type 0} {K S : ℕ} → (C → Certificate) → Point A C K S → Case
case_of claims s = judged s.place.image.now s.place.declaration.now (claims s.claims.now)

-- What the kept fact says of which the conditions are asked.
abbrev pub fact_asked : {A C : Type 0} {K S : ℕ} → Point A C K S → Fact
fact_asked s = fact_in_code s.fact.now

-- The address is in the body, of which the certificate's sites and writes are at hand, the place has the certificate's rules, the
-- fact leaves room for what comes of a word and has itself no more room than one that is narrowed, and a fact that is kept for
-- another address is the only one there.
pub record IsPoint {A C : Type 0} {K S : ℕ} (claims : C → Certificate) (s : Point A C K S) : Type 0 where
  pub stands : (case_of claims s).declaration.body s.place.routine s.at ≡ true
  pub rules : rules_of s.place.rules ≡ (claims s.claims.now).rules
  pub sites : words s.body.now.claim.sites ≡ sites_of (claims s.claims.now) s.place.routine
  pub writes : words s.body.now.claim.writes ≡ writes_of (claims s.claims.now) s.place.routine
  pub roomy : IsRoomy s.fact.now
  pub cells : K ≤ 132
  pub relations : S ≤ 68
  pub ahead : IfSome s.following (λ f. StandsAhead (claims s.claims.now) (words s.body.now.claim.sites) f.now)

-- The words that are possible there.
abbrev pub possible_at : {A C : Type 0} {K S : ℕ} → (C → Certificate) → Point A C K S → Words
possible_at claims s = possible (place_in (case_of claims s) s.place.routine) (fact_asked s) s.at

-- What a condition asks there of a word.
abbrev pub HoldsHere : {A C : Type 0} {K S : ℕ} → (C → Certificate) → Point A C K S → Condition → ℕ → Type 0
HoldsHere claims s v w =
    HoldsFor (case_of claims s) v s.place.routine s.at (fact_asked s) (meaning_of (case_of claims s).declaration.profile s.at w)

-- What a condition asks there of each word that is possible.
abbrev pub HoldsForAllWords : {A C : Type 0} {K S : ℕ} → (C → Certificate) → Point A C K S → Condition → Type 0
HoldsForAllWords claims s v = HoldsForWords (case_of claims s) v s.place.routine s.at (fact_asked s)

-- Few words are possible there.
abbrev pub HasFewHere : {A C : Type 0} {K S : ℕ} → (C → Certificate) → Point A C K S → Type 0
HasFewHere claims s = HasFew (case_of claims s) s.place.routine s.at (fact_asked s)

-- What a condition asks there.
abbrev pub HoldsOfPoint : {A C : Type 0} {K S : ℕ} → (C → Certificate) → Point A C K S → Condition → Type 0
HoldsOfPoint claims s v = HoldsOfFact (case_of claims s) v s.place.routine s.at (fact_asked s)
