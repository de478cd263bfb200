-- What a world in code shows of the machine and its devices.
use Rattle.std.specs.Prelude.{ℕ, ◌≡◌, ◌%◌, Bool, false, ◌||◌, ◌==◌, if◌then◌else◌, List, [], ◌∷◌, ◌++◌}
use Rattle.instruct.specs.declared.Profile.{Profile}
use Rattle.instruct.specs.declared.devices.DeviceOperation.TheVariants.{Punch, ClearPunchFlagAndPunch, Print, ClearPrinterFlagAndPrint}
use Rattle.instruct.specs.Devices.{word_of}
use Rattle.processor.specs.Machine.{Answer}
use Rattle.processor.specs.declared.fetch.DecodedInstruction.{DecodedInstruction}
use Rattle.processor.specs.declared.fetch.DecodedInstruction.TheVariants as fetch
use Rattle.processor.specs.Steps.{state_of}
use Rattle.peripherals.specs.Devices.{Writer, Devices, WorldState, answer_to, devices_after}
use Rattle.peripherals.specs.declared.devices.OutputDevice.{OutputDevice}
use Rattle.peripherals.specs.declared.devices.Panel.{Panel}
use Rattle.peripherals.specs.declared.world.World.{World}

-- A printer or a punch with what it has put out.
abbrev pub writer_of : OutputDevice → List ℕ → Writer
writer_of o output = record { flag = o.flag; busy = o.busy; output = output }

-- The devices of a panel, with what was printed and punched.
abbrev pub devices_of : Panel → List ℕ → List ℕ → Devices
devices_of p printed punched = record {
  keyboard = record { flag = p.keyboard.flag; buffer = p.keyboard.buffer };
  printer = writer_of p.printer printed;
  reader = record { flag = p.reader.flag; buffer = p.reader.buffer; fetching = p.reader.fetching };
  punch = writer_of p.punch punched;
  switches = p.switches;
}

-- TPC and TLS print.
abbrev pub prints : ℕ → Bool
prints word = word == word_of Print || word == word_of ClearPrinterFlagAndPrint

-- PPC and PLS punch.
abbrev pub punches : ℕ → Bool
punches word = word == word_of Punch || word == word_of ClearPunchFlagAndPunch

-- The instruction that was fetched is a device word that prints.
abbrev pub does_print : DecodedInstruction → Bool
does_print (fetch.Device word) = prints word
does_print _ = false

-- The instruction that was fetched is a device word that punches.
abbrev pub does_punch : DecodedInstruction → Bool
does_punch (fetch.Device word) = punches word
does_punch _ = false

-- The output of a device after a word that gives it the low eight bits of the accumulator, or does not.
abbrev pub put_out : Bool → ℕ → List ℕ → List ℕ
put_out gives ac output = if gives then output ++ (ac % 256) ∷ [] else output

-- What the devices answer does not depend on what they have put out.
abbrev pub panel_answer : Panel → ℕ → Answer
panel_answer p = answer_to (devices_of p [] [])

-- After a device word the panel is q, whatever was put out before.
pub record GoesOn (p : Panel) (word ac : ℕ) (q : Panel) : Type 0 where
  pub devices : (printed punched : List ℕ) →
      devices_after (devices_of p printed punched) word ac ≡
      devices_of q (put_out (prints word) ac printed) (put_out (punches word) ac punched)

-- A world as the event table sees it.
abbrev pub view : {A : Type 0} → World A → WorldState
view w = record {
  state = state_of w.cpu;
  devices = devices_of w.panel w.printed.items w.punched.items;
  halted_at = w.halted_at;
}

-- Whose instructions the machine has.
abbrev pub profile_of : {A : Type 0} → World A → Profile
profile_of w = w.cpu.profile
