-- What the events of a run lead to, when a run ends early, and what its trace is.
use Rattle.std.specs.Prelude.{ℕ, ◌≡◌, ◌<◌, ◌+◌, Bool, true, false, not, Option, Some, None, List, [], ◌∷◌, ◌++◌, get_or, length, take}
use Rattle.std.proofs.Common.{zero, suc}
use Rattle.instruct.specs.declared.Profile.{Profile}
use Rattle.peripherals.specs.declared.Event.{Event}
use Rattle.peripherals.specs.declared.Event.TheVariants.{Step, PrinterDone, PunchDone}
use Rattle.peripherals.specs.declared.Seen.{Seen}
use Rattle.peripherals.specs.declared.Seen.TheVariants as seen
use Rattle.peripherals.specs.Devices.{WorldState}
use Rattle.peripherals.specs.Events.{Happens}
use Rattle.peripherals.specs.EventOutcomes.{puts_out, seen_of}
use Rattle.machine_commands.specs.declared.follow.End.{End}
use Rattle.machine_commands.specs.declared.follow.End.TheVariants.{Halted, Unsupported, Bound}
use Rattle.machine_commands.specs.Trace.{trace_of}

-- A run goes on after what was seen, unless the word is not supported, or the run ends at a halt and there is one.
abbrev pub goes_on : Bool → Seen → Bool
goes_on ends_at_halt (seen.Unsupported word) = false
goes_on ends_at_halt seen.Halted = not ends_at_halt
goes_on ends_at_halt _ = true

-- Instructions that were carried out are counted.
abbrev pub counted : Seen → ℕ
counted seen.Ran = 1
counted seen.Halted = 1
counted _ = 0

-- The end of a run that was not stuck: the HLT at which the machine is halted, or its bound.
abbrev pub end_at : Option ℕ → ℕ → End
end_at (Some at) pc = Halted at
end_at None pc = Bound pc

-- The end of a run that is not stuck, in this world: the HLT at which the machine is halted, or else its bound, with the
-- program counter.
abbrev pub end_of : WorldState → End
end_of w = end_at w.halted_at w.state.pc

-- From w these events lead to x with this trace, in so many instructions, and the run ends so.
pub data Follows (profile : Profile) (ends_at_halt : Bool) : List Event → WorldState → List ℕ → ℕ → End → WorldState → Type 0 where
  -- there is no event left
  Ended : (w : WorldState) → Follows profile ends_at_halt [] w [] 0 (end_of w) w
  -- the word is not supported, and nothing changes
  Stuck : (e : Event) (es : List Event) (w x : WorldState) (word : ℕ) →
      seen_of profile w e ≡ seen.Unsupported word → Happens profile w e x →
      Follows profile ends_at_halt (e ∷ es) w [] 0 (Unsupported x.state.pc) x
  -- the machine is halted, and the run ends there
  Stopped : (e : Event) (es : List Event) (w x : WorldState) → ends_at_halt ≡ true →
      seen_of profile w e ≡ seen.Halted → Happens profile w e x →
      Follows profile ends_at_halt (e ∷ es) w (trace_of profile w e x) 1 (end_of x) x
  -- the event happens, and the others follow
  Went : (e : Event) (es : List Event) (w m x : WorldState) (what : Seen) (lines : List ℕ) (n : ℕ) (end : End) →
      seen_of profile w e ≡ what → goes_on ends_at_halt what ≡ true → Happens profile w e m →
      Follows profile ends_at_halt es m lines n end x →
      Follows profile ends_at_halt (e ∷ es) w (trace_of profile w e m ++ lines) (counted what + n) end x

-- Rounds without an event list: an instruction is tried, then the printer and the punch get done.
unfoldable pub rounds : ℕ → List Event
rounds zero = []
rounds (suc n) = Step ∷ PrinterDone ∷ PunchDone ∷ rounds n

-- The trace of the run of the first so many of these events.
pub record IsTraceOfSome (profile : Profile) (ends_at_halt : Bool) (events : List Event) (w : WorldState) (lines : List ℕ) : Type 0 where
  pub count : ℕ
  pub steps : ℕ
  pub end : End
  pub final : WorldState
  pub follows : Follows profile ends_at_halt (take count events) w lines steps end final

-- The trace of the run of all these events, or of those before one that prints or punches.
pub record IsTraceUpToOutput (profile : Profile) (ends_at_halt : Bool) (events : List Event) (w : WorldState) (lines : List ℕ) : Type 0 where
  pub count : ℕ
  pub steps : ℕ
  pub end : End
  pub final : WorldState
  pub follows : Follows profile ends_at_halt (take count events) w lines steps end final
  pub puts : count < length events → puts_out final (get_or events count Step) ≡ true
