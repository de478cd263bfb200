-- What `refute` writes.
use Rattle.std.specs.Prelude.{ℕ, ◌≡◌, ◌+◌, ◌++◌, Bool, false, codes, decimal, length, List, [], Option}
use Rattle.peripherals.specs.declared.Event.{Event}
use Rattle.peripherals.specs.EventText.{Spells}
use Rattle.peripherals.specs.Loading.{image_of}
use Rattle.declaration.specs.Declaration.{Declaration}
use Rattle.policy.specs.declared.rules.Rule.{Rule}
use Rattle.policy.specs.declared.watcher.Watched.TheVariants.{Broken}
use Rattle.policy.specs.Watching.{BreaksAt}
use Rattle.turns.specs.Counts.{Count}
use Rattle.command_parts.specs.declared.options.RefuteOptions.{RefuteOptions}
use Rattle.command_parts.specs.declared.status.Status.{Status}
use Rattle.command_parts.specs.declared.status.Status.TheVariants.{Done, Refused}
use Rattle.machine_commands.specs.Running.{fresh}
use Rattle.machine_commands.specs.WatchText.{watched_text}

-- The line where nothing was found in so many steps.
abbrev pub unbroken_text : ℕ → List ℕ
unbroken_text steps = codes "not broken in " ++ decimal steps ++ codes " steps\n"

-- The list spells a run that violates the declaration: of these events, from the declared start with all registers and all
-- cells that are not on the tape 0, the last one is the first step that is not legal. What is told is what `watch` says of
-- them: its place and the lowest-numbered rule that it violates. Lines that explain it are there only if they are requested.
pub record IsWitnessOf (explained : Bool) (image : List (Option ℕ)) (declaration : Declaration) (list line why : List ℕ) : Type 0 where
  pub events : List Event
  pub spells : Spells list events
  pub event : ℕ
  pub rule : Rule
  pub breaks : BreaksAt (image_of image) declaration events (fresh image declaration.start) event rule
  pub last : event + 1 ≡ length events
  pub line_is : line ≡ watched_text (Broken event rule)
  pub unexplained : explained ≡ false → why ≡ []

-- What is found in search of a run that violates the declaration, where these turns were taken; that each of them is a step of the
-- search is not said here. Either the command is refused, and the list spells such a run of which this is told; or it is done, as many
-- turns were taken as steps are requested, there is no list, and what is told says in how many steps none was found.
abbrev pub IsRefutationOf : RefuteOptions → List (Option ℕ) → Declaration → Count → Status → List ℕ → List ℕ → List ℕ → Type 0
IsRefutationOf options image declaration turns Refused list line why = IsWitnessOf options.explained image declaration list line why
IsRefutationOf options image declaration turns Done list line why =
    (turns.spent ≡ options.steps) × (list ≡ []) × (line ≡ unbroken_text options.steps) × (why ≡ [])
IsRefutationOf options image declaration turns _ list line why = ⊥
