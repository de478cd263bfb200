-- Events: what happens to a machine and its devices, one at a time and in any order.
use Rattle.std.specs.Prelude.{ℕ, ◌≡◌, ◌<◌, true, false, if◌then◌else◌, Some, None}
use Rattle.instruct.specs.declared.Profile.{Profile}
use Rattle.processor.specs.Runs.{Image, IsStart}
use Rattle.peripherals.specs.declared.Event.{Event}
use Rattle.peripherals.specs.declared.Event.TheVariants.{Step, Key, PrinterDone, ReaderDone, PunchDone, Switches, Continue}
use Rattle.peripherals.specs.Devices.{Reader, Writer, Devices, idle, WorldState, Instructs}

-- A key is struck: the keyboard's flag is set and its buffer holds the byte, even if the last key was not taken yet.
abbrev pub struck : ℕ → Devices → Devices
struck byte v = record v { keyboard = record { flag = true; buffer = byte } }

-- A writer that is busy completes: it is no longer busy, and its flag is set.
abbrev pub done : Writer → Writer
done d = if d.busy then record d { busy = false; flag = true } else d

-- A reader that waits for a frame receives it.
abbrev pub read : ℕ → Reader → Reader
read byte d = if d.fetching then record { flag = true; buffer = byte; fetching = false } else d

-- The world with these devices in place of its own; the state of the machine, and whether and where it is halted,
-- do not change.
abbrev pub with_devices : WorldState → Devices → WorldState
with_devices w v = record w { devices = v }

-- The printer completes, and then the punch.
abbrev pub completed : WorldState → WorldState
completed w = with_devices w (record w.devices { printer = done w.devices.printer; punch = done w.devices.punch })

-- While the machine runs, an instruction is attempted; while it is halted, nothing changes.
pub record Steps (profile : Profile) (w x : WorldState) : Type 0 where
  pub runs : w.halted_at ≡ None → Instructs profile w x
  pub halted : (at : ℕ) → w.halted_at ≡ Some at → x ≡ w

-- From the world w an event leads to the world x. An event that is not enabled changes nothing. The
-- numbers of events are bytes and words.
abbrev pub Happens : Profile → WorldState → Event → WorldState → Type 0
Happens profile w Step x = Steps profile w x
Happens profile w (Key byte) x = (byte < 256) × (x ≡ with_devices w (struck byte w.devices))
Happens profile w PrinterDone x = x ≡ with_devices w (record w.devices { printer = done w.devices.printer })
Happens profile w (ReaderDone byte) x =
    (byte < 256) × (x ≡ with_devices w (record w.devices { reader = read byte w.devices.reader }))
Happens profile w PunchDone x = x ≡ with_devices w (record w.devices { punch = done w.devices.punch })
Happens profile w (Switches word) x = (word < 4096) × (x ≡ with_devices w (record w.devices { switches = word }))
-- a halted machine continues at the program counter; a running one is not affected
Happens profile w Continue x = x ≡ record w { halted_at = None }

-- A world after loading: the machine is at its start and runs, and the devices are idle.
pub record IsLoaded (image : Image) (at : ℕ) (w : WorldState) : Type 0 where
  pub state : IsStart image at w.state
  pub devices : w.devices ≡ idle
  pub running : w.halted_at ≡ None
