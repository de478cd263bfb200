-- A declaration as it is kept in code, and the declaration that it means.
use Rattle.std.specs.Prelude.{ℕ, ◌==◌, ◌&&◌, ◌||◌, List, map, slice_index_or, false, Option, Some, None}
use Rattle.std.specs.List.{list_any}
use Rattle.std.specs.Option.{option_map}
use Rattle.instruct.specs.declared.Profile.{Profile}
use Rattle.wordset.specs.Words.{Words}
use Rattle.wordset.specs.Lanes.{words}
use Rattle.declaration.specs.Declaration.{Routine, Declaration, Assertion, PlaceAssertion, ReturnAssertion}
use Rattle.declaration.specs.Lines.{Subroutine, FurtherOffsets}
use Rattle.declaration.specs.declared.Assertion.{Assertion as KeptAssertion}
use Rattle.declaration.specs.declared.PlaceAssertion.{PlaceAssertion as KeptPlaceAssertion}
use Rattle.declaration.specs.declared.ReturnAssertion.{ReturnAssertion as KeptReturnAssertion}
use Rattle.declaration.specs.declared.FurtherOffsets.{FurtherOffsets as KeptFurtherOffsets}
use Rattle.declaration.specs.declared.Offsets.{Offsets}
use Rattle.declaration.specs.declared.Owner.{Owner}
use Rattle.declaration.specs.declared.Owner.TheVariants as owner
use Rattle.declaration.specs.declared.Routine.{Routine as KeptRoutine}

-- A declaration as it is kept: its sets are kept by lanes.
pub record Kept : Type 0 where
  pub start : ℕ
  pub profile : Profile
  pub main : List ℕ
  pub routines : List KeptRoutine
  pub variables : List ℕ
  pub stops : List ℕ
  pub pauses : List ℕ
  pub reads : Option (List ℕ)
  pub skips : List KeptFurtherOffsets
  pub moves : List ℕ
  pub abandons : List ℕ
  pub holds : List KeptPlaceAssertion
  pub returns : List KeptReturnAssertion

-- The offsets of a routine, each of them below 8.
abbrev pub offsets_of : Offsets → Words
offsets_of offsets o = slice_index_or offsets.declared o false

-- The routine that is meant.
abbrev pub subroutine_of : KeptRoutine → Subroutine
subroutine_of r = record { entry = r.entry; body = words r.body; offsets = offsets_of r.offsets }

-- The further offsets that are meant.
abbrev pub further_of : KeptFurtherOffsets → FurtherOffsets
further_of s = record { entry = s.entry; offsets = words s.offsets }

-- The assertion that is meant.
abbrev pub assertion_of : KeptAssertion → Assertion
assertion_of a = record { subject = a.subject; words = words a.words }

-- What is to hold at places, as it is meant.
abbrev pub place_assertion_of : KeptPlaceAssertion → PlaceAssertion
place_assertion_of h = record { places = words h.places; assertion = assertion_of h.assertion }

-- What is to hold at returns, as it is meant.
abbrev pub return_assertion_of : KeptReturnAssertion → ReturnAssertion
return_assertion_of r = record { entry = r.entry; offsets = words r.offsets; assertion = assertion_of r.assertion }

-- The routine whose body it is: main, or the routine of an entry.
abbrev pub routine_of : Owner → Routine
routine_of owner.Main = None
routine_of (owner.Routine e) = Some e

-- The routines of a declaration.
abbrev pub routines_of : Kept → List KeptRoutine
routines_of d = d.routines

-- The further offsets of a declaration, line by line.
abbrev pub skips_of : Kept → List KeptFurtherOffsets
skips_of d = d.skips

-- Some routine has this entry.
abbrev pub entries : List KeptRoutine → Words
entries routines e = list_any (λ r. r.entry == e) routines

-- Some routine of this entry has this cell in its body.
abbrev pub bodies : List KeptRoutine → ℕ → Words
bodies routines e a = list_any (λ r. r.entry == e && words r.body a) routines

-- Some routine has this cell in its body.
abbrev pub in_routines : List KeptRoutine → Words
in_routines routines a = list_any (λ r. words r.body a) routines

-- The body of main or of a routine has this cell.
abbrev pub in_some_body : Kept → Words
in_some_body d a = words d.main a || in_routines d.routines a

-- Some routine of this entry may return at this offset.
abbrev pub offsets : List KeptRoutine → ℕ → Words
offsets routines e o = list_any (λ r. r.entry == e && offsets_of r.offsets o) routines

-- A further line gives this offset to the routine of this entry.
abbrev pub further_offsets : List KeptFurtherOffsets → ℕ → Words
further_offsets skips e o = list_any (λ s. s.entry == e && words s.offsets o) skips

-- The body of main or of a routine.
abbrev pub body_of : Kept → Routine → Words
body_of d None = words d.main
body_of d (Some e) = bodies d.routines e

-- The declaration that is meant.
abbrev pub meaning : Kept → Declaration
meaning d = record {
  start = d.start;
  body = body_of d;
  entry = entries d.routines;
  offset = λ e o. offsets d.routines e o || further_offsets d.skips e o;
  variable = words d.variables;
  stop = words d.stops;
  pause = words d.pauses;
  profile = d.profile;
  reads = option_map words d.reads;
  moves = words d.moves;
  abandon = words d.abandons;
  holds = map place_assertion_of d.holds;
  returns = map return_assertion_of d.returns;
}
