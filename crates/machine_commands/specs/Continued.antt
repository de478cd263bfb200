-- A run in which the operator presses CONTINUE at declared pauses.
use Rattle.std.specs.Prelude.{ℕ, ◌≡◌, ◌⊎◌, ◌+◌, ◌++◌, Bool, true, false, codes, decimal, Option, Some, None, List, [], ◌∷◌}
use Rattle.std.proofs.Common.{suc}
use Rattle.word12.specs.Words.{octal_text}
use Rattle.peripherals.specs.declared.Event.{Event}
use Rattle.peripherals.specs.declared.Event.TheVariants.{Continue}
use Rattle.peripherals.specs.Devices.{WorldState}
use Rattle.peripherals.specs.Events.{Happens}
use Rattle.peripherals.specs.Operator.{Plan}
use Rattle.peripherals.specs.EventOutcomes.{seen_of}
use Rattle.declaration.specs.Declaration.{Declaration}
use Rattle.policy.specs.declared.watcher.Watched.{Watched}
use Rattle.policy.specs.declared.watcher.Watched.TheVariants.{Clean, Broken}
use Rattle.policy.specs.Watching.{LeadsTo}
use Rattle.machine_commands.specs.Follows.{goes_on}
use Rattle.machine_commands.specs.Running.{fresh}
use Rattle.machine_commands.specs.Schedule.{Place, Whole, first_place, operating}
use Rattle.machine_commands.specs.Session.{comes_by}
use Rattle.command_parts.specs.declared.status.Status.{Status}
use Rattle.machine_commands.specs.WatchText.{IsSeen, IsShown, watched_status, watched_text}

-- The machine is halted at a declared pause.
pub record IsAtPause (d : Declaration) (w : WorldState) : Type 0 where
  pub at : ℕ
  pub halted : w.halted_at ≡ Some at
  pub pause : d.pause at ≡ true

-- From a place of an operator and a world these events come, each where it is due by the plan. Where the machine halts at a
-- declared pause, CONTINUE comes next, at most n times, and the round goes on; at another HLT, and once CONTINUE has come n
-- times, the run ends there.
pub data ComesOn (d : Declaration) : ℕ → Place → WorldState → List Event → Type 0 where
  -- nothing is due any more
  Over : (n : ℕ) (s : Place) (w : WorldState) → operating.due s w ≡ None → ComesOn d n s w []
  -- the run ends with the event that is due: the word is not supported, or the machine halts and does not go on
  Final : (n : ℕ) (s : Place) (w x : WorldState) (e : Event) →
      operating.due s w ≡ Some e → goes_on true (seen_of d.profile w e) ≡ false → Happens d.profile w e x →
      (n ≡ 0) ⊎ (IsAtPause d x → ⊥) → ComesOn d n s w (e ∷ [])
  -- the machine halts at a pause, CONTINUE is pressed, and the others come after it
  Pressed : (n : ℕ) (s : Place) (w m v : WorldState) (e : Event) (es : List Event) →
      operating.due s w ≡ Some e → goes_on true (seen_of d.profile w e) ≡ false → Happens d.profile w e m →
      IsAtPause d m → Happens d.profile m Continue v →
      ComesOn d n (operating.after s w e) v es → ComesOn d (suc n) s w (e ∷ Continue ∷ es)
  -- the event that is due happens, and the others come after it
  Then : (n : ℕ) (s : Place) (w m : WorldState) (e : Event) (es : List Event) →
      operating.due s w ≡ Some e → goes_on true (seen_of d.profile w e) ≡ true → Happens d.profile w e m →
      ComesOn d n (operating.after s w e) m es → ComesOn d n s w (e ∷ es)

-- The events that come by a plan in a watched run: without a number those of a run with an operator, which ends at the first
-- HLT, and with a number those of a run that goes on at declared pauses so many times.
abbrev pub came_by : Option ℕ → Plan → Declaration → WorldState → List Event → Type 0
came_by None plan d w events = comes_by plan d.profile w Whole events
came_by (Some n) plan d w events = ComesOn d n (first_place plan) w events

-- How often CONTINUE is pressed by an event.
abbrev pub press_of : Event → ℕ
press_of Continue = 1
press_of _ = 0

-- How many of the events are CONTINUE.
abbrev pub presses : List Event → ℕ
presses [] = 0
presses (e ∷ es) = press_of e + presses es

-- Where the machine is: at the HLT where it is halted, or else at the program counter.
abbrev pub standing_text : Option ℕ → ℕ → List ℕ
standing_text (Some at) pc = codes "halted at " ++ octal_text at
standing_text None pc = codes "the next instruction is at " ++ octal_text pc

-- The line that says how far a run went in which every step is legal: how many pauses it passed of how many it might pass at
-- most, and where it ended.
abbrev pub went_text : ℕ → ℕ → WorldState → List ℕ
went_text passed most w = codes "clean: pauses passed " ++ decimal passed ++ codes " of " ++ decimal most ++ codes ", " ++ standing_text w.halted_at w.state.pc ++ codes "\n"

-- The line is that of the world to which the declared run of these events leads.
pub record SaysHowFar (most : ℕ) (image : List (Option ℕ)) (d : Declaration) (events : List Event) (line : List ℕ) : Type 0 where
  pub final : WorldState
  pub leads : LeadsTo d events (fresh image d.start) final
  pub line_is : line ≡ went_text (presses events) most final

-- The line of a watched run: what is seen of it; or, of a run that goes on at declared pauses at most so many times and in which every step
-- is legal, how far it went.
abbrev pub IsLine : Option ℕ → List (Option ℕ) → Declaration → List Event → Watched → List ℕ → Type 0
IsLine None image d events watched line = line ≡ watched_text watched
IsLine (Some most) image d events Clean line = SaysHowFar most image d events line
IsLine (Some most) image d events (Broken n r) line = line ≡ watched_text (Broken n r)

-- What is told of a watched run: its line, and below it the details, which are, only if they are requested, the lines that explain it,
-- and then the cells that are named.
pub record IsToldOfRun (continues : Option ℕ) (image : List (Option ℕ)) (d : Declaration) (events : List Event) (watched : Watched) (explained : Bool) (named : ℕ → Bool) (line details : List ℕ) : Type 0 where
  pub is_line : IsLine continues image d events watched line
  pub why : List ℕ
  pub unexplained : explained ≡ false → why ≡ []
  pub shown : List ℕ
  pub shows : IsShown named image d events watched shown
  pub details_is : details ≡ why ++ shown

-- The line and the details are what is told of what is seen of the run of these events, with the cells that are named, and the status is
-- that of what is seen.
pub record IsWatch (continues : Option ℕ) (explained : Bool) (named : ℕ → Bool) (image : List (Option ℕ)) (d : Declaration) (events : List Event) (status : Status) (line details : List ℕ) : Type 0 where
  pub watched : Watched
  pub sees : IsSeen image d events watched
  pub is : IsToldOfRun continues image d events watched explained named line details
  pub status_is : status ≡ watched_status watched

-- The text is what `watch` writes of the run of these events: the line, and the details below it.
pub record IsWatchText (explained : Bool) (named : ℕ → Bool) (image : List (Option ℕ)) (d : Declaration) (events : List Event) (status : Status) (text : List ℕ) : Type 0 where
  pub line : List ℕ
  pub details : List ℕ
  pub is : IsWatch None explained named image d events status line details
  pub text_is : text ≡ line ++ details
