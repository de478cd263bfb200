-- What `watch` writes.
use Rattle.std.specs.Prelude.{ℕ, ◌≡◌, ◌++◌, Bool, true, false, take, codes, decimal, List, [], Option}
use Rattle.wordset.specs.Words.{has_some}
use Rattle.peripherals.specs.declared.Event.{Event}
use Rattle.peripherals.specs.Devices.{WorldState}
use Rattle.peripherals.specs.Loading.{image_of}
use Rattle.declaration.specs.Declaration.{Declaration}
use Rattle.policy.specs.declared.rules.Rule.{Rule}
use Rattle.policy.specs.declared.watcher.Watched.{Watched}
use Rattle.policy.specs.declared.watcher.Watched.TheVariants.{Clean, Broken}
use Rattle.policy.specs.Watching.{IsClean, BreaksAt, LeadsTo, number_of}
use Rattle.command_parts.specs.declared.status.Status.{Status}
use Rattle.command_parts.specs.declared.status.Status.TheVariants.{Done, Refused}
use Rattle.machine_commands.specs.Running.{fresh}
use Rattle.machine_commands.specs.Summary.{cells_text}

-- The line for event n, which violates rule r.
abbrev pub broken_text : ℕ → Rule → List ℕ
broken_text n r = codes "broken: event " ++ decimal n ++ codes " rule " ++ decimal (number_of r) ++ codes "\n"

-- The line that says what was seen.
abbrev pub watched_text : Watched → List ℕ
watched_text Clean = codes "clean\n"
watched_text (Broken n r) = broken_text n r

-- A run that violates a rule is refused.
abbrev pub watched_status : Watched → Status
watched_status Clean = Done
watched_status (Broken n r) = Refused

-- What is seen of the declared run of these events, which begins with all registers and all cells that are not on the
-- tape 0: each step is legal, or this is the first that is not, with the lowest-numbered rule that it violates.
abbrev pub IsSeen : List (Option ℕ) → Declaration → List Event → Watched → Type 0
IsSeen image d events Clean = IsClean (image_of image) d events (fresh image d.start)
IsSeen image d events (Broken n r) = BreaksAt (image_of image) d events (fresh image d.start) n r

-- The events of a watched run that happen: all of them, or those before the one that violates a
-- rule.
abbrev pub happening : Watched → List Event → List Event
happening Clean events = events
happening (Broken n r) events = take n events

-- These events lead the declared run, in which a CONTINUE counts at a pause alone, from the declared start to a world, and these
-- are the lines of the named cells, each with its word in that world.
pub record CellsAfter (named : ℕ → Bool) (image : List (Option ℕ)) (d : Declaration) (events : List Event) (shown : List ℕ) : Type 0 where
  pub final : WorldState
  pub leads : LeadsTo d events (fresh image d.start) final
  pub shown_is : shown ≡ cells_text named final

-- What is shown of the cells when a watched run is over: each that is named, with its word after the events that happen; and
-- nothing if none is named.
pub record IsShown (named : ℕ → Bool) (image : List (Option ℕ)) (d : Declaration) (events : List Event) (watched : Watched) (shown : List ℕ) : Type 0 where
  pub none : has_some named ≡ false → shown ≡ []
  pub some : has_some named ≡ true → CellsAfter named image d (happening watched events) shown
