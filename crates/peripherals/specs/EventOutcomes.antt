-- What the caller of an event is told.
use Rattle.std.specs.Prelude.{ℕ, Bool, true, false, ◌&&◌, ◌||◌, if◌then◌else◌, is_none, is_some}
use Rattle.instruct.specs.declared.Profile.{Profile}
use Rattle.instruct.specs.Instructions.{Meaning, Undefined}
use Rattle.processor.specs.Machine.{instruction}
use Rattle.processor.specs.Steps.{halts_after}
use Rattle.peripherals.specs.declared.Event.{Event}
use Rattle.peripherals.specs.declared.Event.TheVariants.{Step, Key, PrinterDone, ReaderDone, PunchDone, Switches, Continue}
use Rattle.peripherals.specs.declared.Seen.{Seen}
use Rattle.peripherals.specs.declared.Seen.TheVariants.{NotEnabled, Changed, Ran, Halted, Unsupported}
use Rattle.peripherals.specs.Devices.{WorldState, word_at_pc}
use Rattle.peripherals.specs.World.{prints, punches}

-- A step is enabled while the machine runs, CONTINUE while it is halted, and a completion while its device is at work;
-- a key and the switches always.
abbrev pub is_enabled : WorldState → Event → Bool
is_enabled w Step = is_none w.halted_at
is_enabled w (Key _) = true
is_enabled w PrinterDone = w.devices.printer.busy
is_enabled w (ReaderDone _) = w.devices.reader.fetching
is_enabled w PunchDone = w.devices.punch.busy
is_enabled w (Switches _) = true
is_enabled w Continue = is_some w.halted_at

-- An instruction was carried out and halted the machine or not, or the word has no meaning.
abbrev pub seen_of_step : Meaning → ℕ → Seen
seen_of_step Undefined word = Unsupported word
seen_of_step m word = if halts_after m then Halted else Ran

-- What the caller is told of an event that is enabled: of a step what became of the instruction at the program counter,
-- and of any other event that it was taken note of.
abbrev pub seen_of_enabled : Profile → WorldState → Event → Seen
seen_of_enabled profile w Step = seen_of_step (instruction profile w.state) (word_at_pc w)
seen_of_enabled profile w _ = Changed

-- What the caller is told of an event that comes in this world: that it is not enabled, or else what it does.
abbrev pub seen_of : Profile → WorldState → Event → Seen
seen_of profile w e = if is_enabled w e then seen_of_enabled profile w e else NotEnabled

-- A step that prints or punches. No other event can be refused memory.
abbrev pub puts_out : WorldState → Event → Bool
puts_out w Step = is_none w.halted_at && (prints (word_at_pc w) || punches (word_at_pc w))
puts_out w _ = false
