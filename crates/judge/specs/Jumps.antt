-- Where outcomes land, those of JMPs apart, as the code asks it. It serves private contracts.
use Rattle.std.specs.Prelude.{◌≡◌, ℕ, ◌<◌, Bool, true, false}
use Rattle.instruct.specs.Instructions.{Meaning}
use Rattle.declaration.specs.Declaration.{Routine}
use Rattle.transfer.specs.Outcomes.{Successor, Goes, CallsTo, Returns}
use Rattle.judge.specs.Landing.{Case, LandsAt, LandsBeyond, abandons}

-- If the run goes on in the same body, the outcome's fact lands.
abbrev pub SuccessorLandsHere : Case → Routine → Successor → Type 0
SuccessorLandsHere j r (Goes next f) = (a : ℕ) → a < 4096 → next a ≡ true → LandsAt j r a f
SuccessorLandsHere j r (CallsTo next f) = Unit {0}
SuccessorLandsHere j r (Returns f) = Unit {0}

-- If the run goes on after a JMP in a routine that is not a return, the outcome's fact lands: in main's body as one of main's,
-- where calls are abandoned for the address; else in the same body.
abbrev pub SuccessorLandsBeyond : Case → Routine → Successor → Type 0
SuccessorLandsBeyond j r (Goes next f) =
    (a : ℕ) → a < 4096 → next a ≡ true → LandsBeyond (j.declaration.abandon a) j r a f
SuccessorLandsBeyond j r (CallsTo next f) = Unit {0}
SuccessorLandsBeyond j r (Returns f) = Unit {0}

-- If the test is true, the instruction abandons calls for exactly the declared places; where it is false, for none.
abbrev pub AbandonsIf : Bool → Case → Routine → Meaning → Type 0
AbandonsIf true j r m = (a : ℕ) → a < 4096 → abandons j.declaration r m a ≡ j.declaration.abandon a
AbandonsIf false j r m = (a : ℕ) → a < 4096 → abandons j.declaration r m a ≡ false
