-- What is so of a run and of a tape if it is told that no declaration allows what the run does.
use Rattle.std.specs.Prelude.{ℕ, ◌≡◌, true, None, ⊤, List, Option, take}
use Rattle.instruct.specs.declared.Profile.{Profile}
use Rattle.processor.specs.Fetch.{fetched}
use Rattle.processor.specs.Machine.{State, is_auto_index}
use Rattle.processor.specs.declared.fetch.DecodedInstruction.TheVariants as fetch
use Rattle.peripherals.specs.Devices.{WorldState}
use Rattle.peripherals.specs.Loading.{image_of}
use Rattle.peripherals.specs.declared.Event.{Event}
use Rattle.peripherals.specs.declared.Start.{Start}
use Rattle.declaration.specs.Declaration.{Declaration}
use Rattle.policy.specs.Watching.{LeadsTo, begun}
use Rattle.proposer.specs.declared.learning.Obstacle.{Obstacle}
use Rattle.proposer.specs.declared.learning.Obstacle.TheVariants.{Unsupported, Unset, CallsPointer}

-- A machine is about to execute the word at the address, and does not support it.
pub record IsUnsupported (machine : Profile) (s : State) (at : ℕ) : Type 0 where
  pub stands : s.pc ≡ at
  pub word : ℕ
  pub fetches : fetched machine s ≡ fetch.Unsupported word

-- Some first events lead the declared run from some start to a machine that is about to execute the word at the address, and
-- does not support it.
pub record MeetsUnsupported (image : List (Option ℕ)) (d : Declaration) (events : List Event) (at : ℕ) : Type 0 where
  pub count : ℕ
  pub start : Start
  pub world : WorldState
  pub leads : LeadsTo d (take count events) (begun (image_of image) d start) world
  pub is : IsUnsupported d.profile world.state at

-- An unsupported word is met by the run of the events, a cell into which nothing has put a word is not on the tape, and an
-- auto-index cell is one. Of the others, which more than one step of several runs show, nothing is said here.
abbrev pub IsObstacle : List (Option ℕ) → Declaration → List Event → Obstacle → Type 0
IsObstacle image d events (Unsupported at) = MeetsUnsupported image d events at
IsObstacle image d events (Unset at) = image_of image at ≡ None
IsObstacle image d events (CallsPointer at) = is_auto_index at ≡ true
IsObstacle image d events _ = ⊤
