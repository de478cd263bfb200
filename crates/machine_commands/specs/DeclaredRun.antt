-- A declared run, in which a CONTINUE counts at a pause alone: its trace, and where it is stopped.
use Rattle.std.specs.Prelude.{ℕ, ◌≡◌, ◌+◌, ◌++◌, Bool, true, false, Option, Some, None, List, [], ◌∷◌, is_some, take}
use Rattle.std.proofs.Common.{zero, suc}
use Rattle.peripherals.specs.declared.Event.{Event}
use Rattle.peripherals.specs.declared.Event.TheVariants.{Continue}
use Rattle.peripherals.specs.Devices.{WorldState}
use Rattle.peripherals.specs.EventOutcomes.{seen_of}
use Rattle.declaration.specs.Declaration.{Declaration}
use Rattle.policy.specs.Runs.{HappensDeclared}
use Rattle.policy.specs.declared.watcher.Watched.{Watched}
use Rattle.policy.specs.declared.watcher.Watched.TheVariants.{Clean, Broken}
use Rattle.command_parts.specs.declared.options.Stops.{Stops}
use Rattle.machine_commands.specs.declared.follow.End.TheVariants as end
use Rattle.machine_commands.specs.Follows.{counted}
use Rattle.machine_commands.specs.Last.{last_lines}
use Rattle.machine_commands.specs.Running.{fresh}
use Rattle.machine_commands.specs.Stops.{stops_before, visits_with}
use Rattle.machine_commands.specs.Summary.{state_line}
use Rattle.machine_commands.specs.Trace.{trace_of}
use Rattle.machine_commands.specs.WatchText.{IsSeen, happening}

-- The event is a CONTINUE.
abbrev pub is_continue : Event → Bool
is_continue Continue = true
is_continue _ = false

-- From w these events of a declared run lead to x, with this trace, in so many instructions.
pub data Traces (d : Declaration) : List Event → WorldState → List ℕ → ℕ → WorldState → Type 0 where
  -- there is no event left
  Ended : (w : WorldState) → Traces d [] w [] 0 w
  -- the first event happens, and the others follow
  Went : (e : Event) (es : List Event) (w m x : WorldState) (lines : List ℕ) (n : ℕ) →
      HappensDeclared d w e m → Traces d es m lines n x →
      Traces d (e ∷ es) w (trace_of d.profile w e m ++ lines) (counted (seen_of d.profile w e) + n) x

-- From w, where so many steps before came to the address, the declared run of these events is stopped before one of them, the first that
-- stops it. So many events come before that one.
pub data StopsDeclared (stops : Stops) (d : Declaration) : ℕ → List Event → WorldState → ℕ → Type 0 where
  -- the first event stops it
  Here : (visits : ℕ) (e : Event) (es : List Event) (w : WorldState) → stops_before stops d.profile visits w e ≡ true →
      StopsDeclared stops d visits (e ∷ es) w zero
  -- the first event does not stop it, and happens
  Later : (visits count : ℕ) (e : Event) (es : List Event) (w m : WorldState) → stops_before stops d.profile visits w e ≡ false →
      HappensDeclared d w e m → StopsDeclared stops d (visits_with stops visits w e) es m count →
      StopsDeclared stops d visits (e ∷ es) w (suc count)

-- From w, where so many steps before came to the address, no event stops the declared run of these events.
pub data NeverDeclared (stops : Stops) (d : Declaration) : ℕ → List Event → WorldState → Type 0 where
  -- there is no event left
  Over : (visits : ℕ) (w : WorldState) → NeverDeclared stops d visits [] w
  -- the first event does not stop it, and happens
  Continues : (visits : ℕ) (e : Event) (es : List Event) (w m : WorldState) → stops_before stops d.profile visits w e ≡ false →
      HappensDeclared d w e m → NeverDeclared stops d (visits_with stops visits w e) es m →
      NeverDeclared stops d visits (e ∷ es) w

-- Where the declared run of these events from w is stopped: after so many of them, or never.
abbrev pub IsDeclaredStop : Stops → Declaration → List Event → WorldState → Option ℕ → Type 0
IsDeclaredStop stops d events w (Some count) = StopsDeclared stops d 0 events w count
IsDeclaredStop stops d events w None = NeverDeclared stops d 0 events w

-- The first of some events, so many if there is a number, and else all.
abbrev pub up_to : Option ℕ → List Event → List Event
up_to None events = events
up_to (Some count) events = take count events

-- The declared run of these events from an image is stopped behind the first ones, or it is not stopped and these are all. The stop is
-- looked for in all the events, also behind a step that violates a rule: what is told then is that rule, as `stopped_line` says.
pub record IsDeclaredCut (stops : Stops) (d : Declaration) (image : List (Option ℕ)) (events cut : List Event) (stopped : Bool) : Type 0 where
  pub stop : Option ℕ
  pub is_stop : IsDeclaredStop stops d events (fresh image d.start) stop
  pub cut_is : cut ≡ up_to stop events
  pub stopped_is : stopped ≡ is_some stop

-- The last lines of a trace, so many if they are requested.
abbrev pub last_of : Option ℕ → List ℕ → List ℕ
last_of None lines = []
last_of (Some most) lines = last_lines most lines

-- The line that says where a run was stopped, if it was and violated no rule before.
abbrev pub stopped_line : Bool → Watched → WorldState → ℕ → List ℕ
stopped_line false watched w steps = []
stopped_line true (Broken n r) w steps = []
stopped_line true Clean w steps = state_line (end.Stopped w.state.pc) w steps

-- What comes before what is told of the declared run of these events: the lines of the last instructions that were carried out, before a
-- step that violates a rule, and the line that says where it was stopped.
pub record IsLinesBefore (image : List (Option ℕ)) (d : Declaration) (events : List Event) (stopped : Bool) (last : Option ℕ) (text : List ℕ) : Type 0 where
  pub watched : Watched
  pub sees : IsSeen image d events watched
  pub lines : List ℕ
  pub steps : ℕ
  pub final : WorldState
  pub goes : Traces d (happening watched events) (fresh image d.start) lines steps final
  pub text_is : text ≡ last_of last lines ++ stopped_line stopped watched final steps
