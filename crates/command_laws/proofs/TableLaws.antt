-- A run that is driven by events is a run of the instruction table.
use Rattle.std.proofs.Common.{ℕ, suc, ◌≡◌, ◌+◌, Bool, true, false, ◌&&◌, if◌then◌else◌, Option, Some, None, List, [], ◌∷◌, ◌++◌, length, length-append, refl, sym, ap, ◌∙◌}
use Rattle.std.specs.Prelude.{is_none, is_some}
use Rattle.instruct.specs.declared.Profile.{Profile}
use Rattle.instruct.specs.Instructions.{Meaning, Undefined, And, Tad, Isz, Dca, Jms, Jmp, Group1, Group2, Group3, Device}
use Rattle.processor.specs.Machine.{State, instruction}
use Rattle.processor.specs.Runs.{Taken}
use Rattle.processor.specs.Steps.{halts_after}
use Rattle.peripherals.specs.declared.Event.{Event}
use Rattle.peripherals.specs.declared.Event.TheVariants.{Step, Key, PrinterDone, ReaderDone, PunchDone, Switches, Continue}
use Rattle.peripherals.specs.declared.Seen.{Seen}
use Rattle.peripherals.specs.declared.Seen.TheVariants as seen
use Rattle.peripherals.specs.Devices.{WorldState, word_at_pc}
use Rattle.peripherals.specs.Events.{Happens}
use Rattle.peripherals.specs.Runs.{EventRun, EventsAreRuns, is_supported, states_before, stepped_from}
use Rattle.peripherals.specs.EventOutcomes.{seen_of, seen_of_step}
use Rattle.machine_commands.specs.declared.follow.End.{End}
use Rattle.machine_commands.specs.Follows.{Follows, Ended, Stuck, Stopped, Went, counted}
use Rattle.command_laws.specs.Laws.{FollowsTheTable}

-- an instruction that has a meaning is counted once
supported_counts : (halts : Bool) (s : State) → counted (if halts then seen.Halted else seen.Ran) ≡ length (s ∷ [])
supported_counts true s = refl
supported_counts false s = refl

meaning_counts : (m : Meaning) (word : ℕ) (s : State) → counted (seen_of_step m word) ≡ length (if is_supported m then s ∷ [] else [])
meaning_counts Undefined word s = refl
meaning_counts (And i c) word s = supported_counts (halts_after (And i c)) s
meaning_counts (Tad i c) word s = supported_counts (halts_after (Tad i c)) s
meaning_counts (Isz i c) word s = supported_counts (halts_after (Isz i c)) s
meaning_counts (Dca i c) word s = supported_counts (halts_after (Dca i c)) s
meaning_counts (Jms i c) word s = supported_counts (halts_after (Jms i c)) s
meaning_counts (Jmp i c) word s = supported_counts (halts_after (Jmp i c)) s
meaning_counts (Group1 w) word s = supported_counts (halts_after (Group1 w)) s
meaning_counts (Group2 w) word s = supported_counts (halts_after (Group2 w)) s
meaning_counts (Group3 g) word s = supported_counts (halts_after (Group3 g)) s
meaning_counts (Device a) word s = supported_counts (halts_after (Device a)) s

step_counts : (p : Profile) (w : WorldState) (at : Option ℕ) → counted (if is_none at then seen_of_step (instruction p w.state) (word_at_pc w) else seen.NotEnabled)
    ≡ length (if is_none at && is_supported (instruction p w.state) then w.state ∷ [] else [])
step_counts p w None = meaning_counts (instruction p w.state) (word_at_pc w) w.state
step_counts p w (Some at) = refl

device_counts : (enabled : Bool) → counted (if enabled then seen.Changed else seen.NotEnabled) ≡ 0
device_counts true = refl
device_counts false = refl

-- the count for an event is the number of states before its steps
event_counts : (p : Profile) (w : WorldState) (e : Event) → counted (seen_of p w e) ≡ length (stepped_from p w e)
event_counts p w Step = step_counts p w w.halted_at
event_counts p w (Key byte) = refl
event_counts p w PrinterDone = device_counts w.devices.printer.busy
event_counts p w (ReaderDone byte) = device_counts w.devices.reader.fetching
event_counts p w PunchDone = device_counts w.devices.punch.busy
event_counts p w (Switches word) = refl
event_counts p w Continue = device_counts (is_some w.halted_at)

-- The events that happened in a run, and the states before its steps.
record Happened (p : Profile) (w : WorldState) (steps : ℕ) (x : WorldState) : Type 0 where
  events : List Event
  before : List State
  run : EventRun p events w before x
  counts : length before ≡ steps

-- one event, and those after it
next : (p : Profile) (w m x : WorldState) (e : Event) (what : Seen) (n : ℕ) → seen_of p w e ≡ what → Happens p w e m → Happened p m n x → Happened p w (counted what + n) x
next p w m x e what n sees happens later = record {
  events = e ∷ later.events;
  before = stepped_from p w e ++ later.before;
  run = (m, later.before, happens, later.run, refl);
  counts = length-append (stepped_from p w e) later.before ∙ (ap (λ (k : ℕ). k + length later.before) (sym (event_counts p w e) ∙ ap counted sees) ∙ ap (λ (k : ℕ). counted what + k) later.counts);
}

nothing : (p : Profile) (x : WorldState) → Happened p x 0 x
nothing p x = record { events = []; before = []; run = (refl, refl); counts = refl }

happened : (p : Profile) (h : Bool) (events : List Event) (w x : WorldState) (lines : List ℕ) (steps : ℕ) (end : End) → Follows p h events w lines steps end x → Happened p w steps x
happened p h events w x lines steps end (Ended _) = nothing p x
happened p h events w x lines steps end (Stuck e es _ _ word sees happens) = next p w x x e (seen.Unsupported word) 0 sees happens (nothing p x)
happened p h events w x lines steps end (Stopped e es _ _ ends sees happens) = next p w x x e seen.Halted 0 sees happens (nothing p x)
happened p h events w x lines steps end (Went e es _ m _ what more n _ sees goes happens later) = next p w m x e what n sees happens (happened p h es m x more n end later)

taken_counts : (taken : List Taken) → length (states_before taken) ≡ length taken
taken_counts [] = refl
taken_counts (k ∷ ks) = ap suc (taken_counts ks)

pub follows_the_table : EventsAreRuns → FollowsTheTable
follows_the_table runs profile ends events w x lines steps end follows =
    let h = happened profile ends events w x lines steps end follows in
    let run = runs profile h.events w x h.before h.run in
    (run.0, sym (taken_counts run.0) ∙ (ap length run.1 ∙ h.counts), run.2)
