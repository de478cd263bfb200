-- The run of a tape, and what it writes.
use Rattle.std.specs.Prelude.{ℕ, ◌≡◌, Bool, true, false, Some, None, ◌⊎◌, ◌++◌, List, Option}
use Rattle.peripherals.specs.declared.Event.{Event}
use Rattle.peripherals.specs.Devices.{WorldState, idle}
use Rattle.peripherals.specs.Loading.{image_of, laid}
use Rattle.machine_commands.specs.declared.follow.End.{End}
use Rattle.machine_commands.specs.declared.follow.End.TheVariants.{Unsupported}
use Rattle.wordset.specs.Lanes.{words}
use Rattle.command_parts.specs.declared.options.RunOptions.{RunOptions}
use Rattle.command_parts.specs.declared.status.Status.{Status}
use Rattle.command_parts.specs.declared.status.Status.TheVariants.{Done, Refused}
use Rattle.command_parts.specs.Inputs.{HasImage, HasEvents}
use Rattle.machine_commands.specs.Follows.{Follows, IsTraceOfSome, IsTraceUpToOutput, rounds}
use Rattle.machine_commands.specs.Last.{last_lines, told}
use Rattle.machine_commands.specs.Summary.{closing}
use Rattle.machine_commands.specs.Trace.{traced}

-- A machine whose registers and other cells are 0, loaded with an image, which stands at an address.
abbrev pub fresh : List (Option ℕ) → ℕ → WorldState
fresh image pc = record {
  state = record { ac = 0; link = 0; mq = 0; pc = pc; memory = laid (image_of image) (λ _. 0) };
  devices = idle;
  halted_at = None;
}

-- A run that is stuck at an unsupported word is refused.
abbrev pub status_of : End → Status
status_of (Unsupported at) = Refused
status_of _ = Done

-- What is shown of the lines of a trace: all of them if a trace is requested; or the last ones where so many or all of these are requested.
abbrev pub shown_of : Bool → Option ℕ → List ℕ → List ℕ
shown_of trace None lines = traced trace lines
shown_of trace (Some most) lines = last_lines most lines

-- From an image these events lead to an end, or to where the run is stopped: the text is what is shown of the trace, the summary, which says
-- where the program counter was if the run was stopped, and the cells to be shown, each with its word in the world in which the run ended.
pub record IsRunTold (options : RunOptions) (shown : Option ℕ) (stopped ends_at_halt : Bool) (events : List Event) (image : List (Option ℕ)) (text : List ℕ) (status : Status) : Type 0 where
  pub lines : List ℕ
  pub steps : ℕ
  pub end : End
  pub final : WorldState
  pub follows : Follows options.profile ends_at_halt events (fresh image options.start) lines steps end final
  pub text_is : text ≡ shown_of options.trace shown lines ++ closing (words options.show) (told stopped end final) final steps
  pub status_is : status ≡ status_of (told stopped end final)

-- The same, whichever status that has.
abbrev pub IsRunText : RunOptions → Option ℕ → Bool → Bool → List Event → List (Option ℕ) → List ℕ → Type 0
IsRunText options shown stopped ends_at_halt events image text = (status : Status) × IsRunTold options shown stopped ends_at_halt events image text status

-- From an image these events lead to an end, of which this is told: the trace, if one is requested, the summary, and the cells to be shown.
abbrev pub IsRunOf : RunOptions → Bool → List Event → List (Option ℕ) → List ℕ → Status → Type 0
IsRunOf options ends_at_halt events image text status = IsRunTold options None false ends_at_halt events image text status

-- A trace is requested, and the text is that of the run of some first events.
pub record IsTraceOf (options : RunOptions) (ends_at_halt : Bool) (events : List Event) (image : List (Option ℕ)) (text : List ℕ) : Type 0 where
  pub asked : options.trace ≡ true
  pub is : IsTraceOfSome options.profile ends_at_halt events (fresh image options.start) text

-- A trace is requested, and the text is that of the run of all these events, or of those before one that prints or punches.
pub record IsTraceToOutput (options : RunOptions) (ends_at_halt : Bool) (events : List Event) (image : List (Option ℕ)) (text : List ℕ) : Type 0 where
  pub asked : options.trace ≡ true
  pub is : IsTraceUpToOutput options.profile ends_at_halt events (fresh image options.start) text

-- What a run, which is stopped or is not, may be about to write: its whole text, or the trace of some first events.
abbrev pub IsPartOf : RunOptions → Bool → Bool → List Event → List (Option ℕ) → List ℕ → Type 0
IsPartOf options stopped ends_at_halt events image text =
    IsRunText options None stopped ends_at_halt events image text ⊎ IsTraceOf options ends_at_halt events image text

-- The frames are a tape, and the text is that of the run of its image by so many rounds, which ends at a halt.
pub record IsRoundRun (options : RunOptions) (frames : Option (List ℕ)) (text : List ℕ) (status : Status) : Type 0 where
  pub image : List (Option ℕ)
  pub tape : HasImage frames image
  pub run : IsRunOf options true (rounds options.rounds) image text status

-- The frames are a tape, and the text is what the run of its image by so many rounds, which ends at a halt, may be
-- about to write: its whole text, or where a trace is requested, that of some first events.
pub record IsPartOfRoundRun (options : RunOptions) (frames : Option (List ℕ)) (text : List ℕ) : Type 0 where
  pub image : List (Option ℕ)
  pub tape : HasImage frames image
  pub part : IsPartOf options false true (rounds options.rounds) image text

-- The frames are a tape, and the text is that of the run of its image by the events that a list spells; such a run goes
-- on after a halt.
pub record IsEventRun (options : RunOptions) (frames list : Option (List ℕ)) (text : List ℕ) (status : Status) : Type 0 where
  pub image : List (Option ℕ)
  pub tape : HasImage frames image
  pub events : List Event
  pub spelled : HasEvents list events
  pub run : IsRunOf options false events image text status

-- The frames are a tape, and the text is what the run of its image by the events that a list spells, which goes on
-- after a halt, may be about to write: its whole text, or where a trace is requested, that of some first events.
pub record IsPartOfEventRun (options : RunOptions) (frames list : Option (List ℕ)) (text : List ℕ) : Type 0 where
  pub image : List (Option ℕ)
  pub tape : HasImage frames image
  pub events : List Event
  pub spelled : HasEvents list events
  pub part : IsPartOf options false false events image text

-- The frames are a tape, a trace is requested, and the text is that of the run of its image by so many rounds, or by their
-- events before one that prints or punches.
pub record IsTraceOfRounds (options : RunOptions) (frames : Option (List ℕ)) (text : List ℕ) : Type 0 where
  pub image : List (Option ℕ)
  pub tape : HasImage frames image
  pub is : IsTraceToOutput options true (rounds options.rounds) image text

-- The frames are a tape, a trace is requested, and the text is that of the run of its image by the events that a list
-- spells, or by those before one that prints or punches.
pub record IsTraceOfEvents (options : RunOptions) (frames list : Option (List ℕ)) (text : List ℕ) : Type 0 where
  pub image : List (Option ℕ)
  pub tape : HasImage frames image
  pub events : List Event
  pub spelled : HasEvents list events
  pub is : IsTraceToOutput options false events image text
