-- What a source's symbols are. A list of acts has the newest first: what an act means depends on those before it.
use Rattle.std.specs.Prelude.{◌≡◌, ℕ, ◌+◌, ◌%◌, nat_lt, nat_eq, if◌then◌else◌, List, [], ◌∷◌, ◌++◌, length, Option, Some, None, Result, Ok, Err, unwrap_or}
use Rattle.pal_text.specs.declared.names.Name.{Name}
use Rattle.pal_acts.specs.declared.act.SignedTerm.{SignedTerm}
use Rattle.pal_acts.specs.declared.act.Act.{Act}
use Rattle.pal_acts.specs.declared.act.Act.TheVariants as act
use Rattle.pal_acts.specs.declared.fault_code.FaultCode.{FaultCode}
use Rattle.pal_acts.specs.declared.fault_code.FaultCode.TheVariants.{Redefined, DuplicateTag, TableFull, PauseInLastPart}
use Rattle.pal_acts.specs.Acts.{PlacedAct}
use Rattle.pal_acts.specs.Values.{Values, known, value, needed}

-- The current location after an act at this location: an origin sets it, and a word makes it one more.
abbrev pub location_after : Values → ℕ → List SignedTerm → Act → ℕ
location_after σ here e act.Origin = unwrap_or (value σ here e) 0
location_after σ here e act.Word = (here + 1) % 4096
location_after σ here e _ = here

-- The current location after these acts: 0200 before the first.
abbrev pub location : Values → List PlacedAct → ℕ
location σ [] = 0o200
location σ (a ∷ before) = location_after σ (location σ before) a.terms a.act

-- The own symbols once a name has this value, where it had that one or none before, which comes last then. Another value
-- has the given code, and a new name may find the table full.
abbrev pub given : FaultCode → ℕ → List (Name × ℕ) → Name → Option ℕ → ℕ → Result (List (Name × ℕ)) FaultCode
given code limit own n None v = if nat_lt (length own) limit then Ok (own ++ (n, v) ∷ []) else Err TableFull
given code limit own n (Some w) v = if nat_eq w v then Ok own else Err code

module _ (permanent : List (Name × ℕ)) (limit : ℕ) (own : List (Name × ℕ)) where
  -- The own symbols after an act at this location, where these are those before it, or its fault. That of a word is looked
  -- for later. A direction cannot be given a value.
  abbrev pub taken : ℕ → List SignedTerm → Act → Result (List (Name × ℕ)) FaultCode
  taken here e (act.Wrong c) = Err c
  taken here e (act.Tag n) = given DuplicateTag limit own n (known permanent own n) here
  taken here e act.Origin = needed (value (known permanent own) here e) (λ v. Ok own)
  taken here e (act.Assign n) = needed (value (known permanent own) here e) (given Redefined limit own n (known permanent own n))
  taken here e act.AssignDirection = needed (value (known permanent own) here e) (λ v. Err Redefined)
  taken here e act.Word = Ok own
  taken here e act.LastPause = Err PauseInLastPart

  -- The own symbols after the next act, or its fault, where these acts, the newest first, stand before it and define
  -- the own symbols that are given.
  abbrev pub next_taken : List PlacedAct → PlacedAct → Result (List (Name × ℕ)) FaultCode
  next_taken before next = taken (location (known permanent own) before) next.terms next.act

-- These acts, the newest first, have no fault but a word's, and these are their own symbols: there are none before the first
-- act, and each act makes its own of those before it.
pub data Defines (permanent : List (Name × ℕ)) (limit : ℕ) : List PlacedAct → List (Name × ℕ) → Type 0 where
  nothing : Defines permanent limit [] []
  one_more : (before : List PlacedAct) (next : PlacedAct) (own new : List (Name × ℕ)) → Defines permanent limit before own → next_taken permanent limit own before next ≡ Ok new
      → Defines permanent limit (next ∷ before) new
