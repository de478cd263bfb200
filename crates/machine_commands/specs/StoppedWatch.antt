-- What `watch` writes of a run that may be stopped.
use Rattle.std.specs.Prelude.{ℕ, ◌≡◌, ◌++◌, Bool, List, Option}
use Rattle.peripherals.specs.declared.Event.{Event}
use Rattle.peripherals.specs.Operator.{Plan}
use Rattle.declaration.specs.Declaration.{Declaration}
use Rattle.command_parts.specs.declared.options.Stops.{Stops}
use Rattle.command_parts.specs.declared.status.Status.{Status}
use Rattle.machine_commands.specs.Continued.{IsWatch, came_by}
use Rattle.machine_commands.specs.DeclaredRun.{IsDeclaredCut, IsLinesBefore}
use Rattle.machine_commands.specs.Running.{fresh}

-- This is told of the declared run of these events up to where it is stopped, if it is: the lines of its last instructions, if so many are
-- requested, the line that says where it was stopped, and the line and the details of what is seen of the events up to there.
pub record IsWatchToStop (continues : Option ℕ) (stops : Stops) (last : Option ℕ) (explained : Bool) (named : ℕ → Bool) (image : List (Option ℕ)) (d : Declaration) (events : List Event) (status : Status) (lines details : List ℕ) : Type 0 where
  pub cut : List Event
  pub stopped : Bool
  pub is_cut : IsDeclaredCut stops d image events cut stopped
  pub before : List ℕ
  pub before_is : IsLinesBefore image d cut stopped last before
  pub line : List ℕ
  pub is : IsWatch continues explained named image d cut status line details
  pub lines_is : lines ≡ before ++ line

-- From an image, on the declared machine and from the declared start, all the events of this plan come, as they do in a run with an
-- operator, who presses CONTINUE at declared pauses if there is a number of times; this is told of their declared run up to where it is
-- stopped.
pub record IsPlanToStop (continues : Option ℕ) (plan : Plan) (stops : Stops) (last : Option ℕ) (explained : Bool) (named : ℕ → Bool) (image : List (Option ℕ)) (d : Declaration) (status : Status) (lines details : List ℕ) : Type 0 where
  pub events : List Event
  pub come : came_by continues plan d (fresh image d.start) events
  pub is : IsWatchToStop continues stops last explained named image d events status lines details
