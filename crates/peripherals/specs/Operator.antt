-- Rounds with an operator, who sets the switches, has a tape in the reader, and strikes keys.
use Rattle.std.specs.Prelude.{ℕ, ◌+◌, ◌%◌, Bool, if◌then◌else◌, Option, Some, None, List, [], ◌∷◌, drop, map}
use Rattle.std.proofs.Common.{zero, suc}
use Rattle.peripherals.specs.declared.Event.{Event}
use Rattle.peripherals.specs.declared.Event.TheVariants.{Step, Key, PrinterDone, ReaderDone, PunchDone, Switches, Continue}
use Rattle.peripherals.specs.declared.operator.Operator.{Operator}
use Rattle.peripherals.specs.Devices.{WorldState}

-- What an operator brings: what the switches are set to at first, if they are; and still to come so many rounds, the frames
-- in the reader, and the bytes of the keys.
pub record Plan : Type 0 where
  pub switches : Option ℕ
  pub rounds : ℕ
  pub frames : List ℕ
  pub keys : List ℕ

-- A round begins with an instruction.
abbrev pub round_due : ℕ → Option Event
round_due zero = None
round_due (suc n) = Some Step

-- The next key is due where the keyboard's flag is clear; where none is, the next round.
abbrev pub key_due : List ℕ → ℕ → Bool → Option Event
key_due [] rounds flag = round_due rounds
key_due (key ∷ keys) rounds flag = if flag then round_due rounds else Some (Key key)

-- The next frame is due where the reader waits for one; where none is, a key may be.
abbrev pub frame_due : Plan → WorldState → List ℕ → Option Event
frame_due plan w [] = key_due plan.keys plan.rounds w.devices.keyboard.flag
frame_due plan w (frame ∷ frames) =
    if w.devices.reader.fetching then Some (ReaderDone frame)
    else key_due plan.keys plan.rounds w.devices.keyboard.flag

-- First the switches are set, if they are.
abbrev pub first_due : Plan → Option ℕ → Option Event
first_due plan None = round_due plan.rounds
first_due plan (Some word) = Some (Switches word)

-- What is due after an event: in a round the instruction, the printer, the punch, the reader and the keyboard have their
-- turns in this order.
abbrev pub due_after : Plan → WorldState → Event → Option Event
due_after plan w Step = Some PrinterDone
due_after plan w PrinterDone = Some PunchDone
due_after plan w PunchDone = frame_due plan w plan.frames
due_after plan w (ReaderDone frame) = key_due plan.keys plan.rounds w.devices.keyboard.flag
due_after plan w (Key key) = round_due plan.rounds
due_after plan w (Switches word) = round_due plan.rounds
due_after plan w Continue = round_due plan.rounds

-- What is due in a world, after the last event if there was one.
abbrev pub due : Plan → WorldState → Option Event → Option Event
due plan w None = first_due plan plan.switches
due plan w (Some last) = due_after plan w last

-- The rounds still to come once one has begun; where none was to come, none is.
abbrev pub one_less : ℕ → ℕ
one_less zero = zero
one_less (suc n) = n

-- What is still to come after an event: an instruction begins a round, and a frame or a key is used up.
abbrev pub left_after : Event → Plan → Plan
left_after Step plan = record plan { rounds = one_less plan.rounds }
left_after (ReaderDone frame) plan = record plan { frames = drop 1 plan.frames }
left_after (Key key) plan = record plan { keys = drop 1 plan.keys }
left_after _ plan = plan

-- The byte of a key: as it is, or with channel 8 set, as the teletype sends it.
abbrev pub struck_as : Bool → ℕ → ℕ
struck_as mark byte = if mark then 128 + byte % 128 else byte

-- The plan of an operator in code.
abbrev pub plan_of : Operator → Plan
plan_of o = record {
  switches = o.switches;
  rounds = o.rounds;
  frames = o.frames.now;
  keys = map (struck_as o.mark) o.keys.now;
}
