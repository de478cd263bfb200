-- The keyboard, the printer, the tape reader, the punch and the switches; and one instruction on a machine with
-- these devices.
use Rattle.std.specs.Prelude.{ℕ, ◌≡◌, ◌%◌, ◌==◌, Bool, true, false, ◌||◌, ◌⊎◌, if◌then◌else◌, Option, Some, None, List, [], ◌∷◌, ◌++◌}
use Rattle.instruct.specs.declared.Profile.{Profile}
use Rattle.instruct.specs.declared.devices.DeviceOperation.TheVariants.{ClearKeyboardFlag, ClearKeyboardFlagAndAccumulator, ClearPrinterFlag, ClearPrinterFlagAndPrint, ClearPunchFlag, ClearPunchFlagAndPunch, FetchReaderFrame, Print, Punch, ReadKeyboardBuffer, ReadReaderBuffer, ReadReaderBufferAndFetchFrame, SetPrinterFlag, SkipOnKeyboardFlag, SkipOnPrinterFlag, SkipOnPunchFlag, SkipOnReaderFlag, TakeKeyboardByte}
use Rattle.instruct.specs.Devices.{word_of}
use Rattle.instruct.specs.Instructions.{Undefined}
use Rattle.processor.specs.Machine.{State, Answer, Silent, Truth, Byte, Step, instruction}
use Rattle.processor.specs.Steps.{answer_taken, halts_after}

-- The keyboard: its flag, and the byte of the last key.
pub record Keyboard : Type 0 where
  pub flag : Bool
  pub buffer : ℕ

-- The tape reader: its flag, the byte of the last frame, and whether it waits for a frame.
pub record Reader : Type 0 where
  pub flag : Bool
  pub buffer : ℕ
  pub fetching : Bool

-- The printer or the punch: its flag, whether it is busy with a byte, and all bytes that it has
-- received.
pub record Writer : Type 0 where
  pub flag : Bool
  pub busy : Bool
  pub output : List ℕ

-- The state of the four devices, and the word that the switches are set to.
pub record Devices : Type 0 where
  pub keyboard : Keyboard
  pub printer : Writer
  pub reader : Reader
  pub punch : Writer
  pub switches : ℕ

-- The printer or the punch when a program is loaded: its flag is clear, it is not busy, and it has received no
-- byte.
abbrev pub idle_writer : Writer
idle_writer = record { flag = false; busy = false; output = [] }

-- The devices when a program is loaded: all flags are clear, both buffers and the switches are 0, no device is busy or
-- waiting, and nothing has been printed or punched.
abbrev pub idle : Devices
idle = record {
  keyboard = record { flag = false; buffer = 0 };
  printer = idle_writer;
  reader = record { flag = false; buffer = 0; fetching = false };
  punch = idle_writer;
  switches = 0;
}

-- A writer receives the low eight bits of the accumulator, even while it is busy.
abbrev pub given : ℕ → Writer → Writer
given ac d = record d { busy = true; output = d.output ++ (ac % 256) ∷ [] }

-- The printer or the punch with its flag set or cleared; whether it is busy, and its output, stay.
abbrev pub with_writer_flag : Bool → Writer → Writer
with_writer_flag flag d = record d { flag = flag }

-- The tape reader with its flag set or cleared; its byte, and whether it waits for a frame, stay.
abbrev pub with_reader_flag : Bool → Reader → Reader
with_reader_flag flag d = record d { flag = flag }

-- The keyboard with its flag set or cleared; the byte of the last key stays.
abbrev pub with_keyboard_flag : Bool → Keyboard → Keyboard
with_keyboard_flag flag d = record d { flag = flag }

-- The reader drops its byte and fetches the next frame.
abbrev pub fetched : Reader → Reader
fetched d = record { flag = false; buffer = 0; fetching = true }

-- The answer of the devices to a device word: a flag for a test, and the byte for a word that takes one.
abbrev pub answer_to : Devices → ℕ → Answer
answer_to v word =
    if word == word_of SkipOnReaderFlag then Truth v.reader.flag
    else (if word == word_of SkipOnPunchFlag then Truth v.punch.flag
    else (if word == word_of SkipOnKeyboardFlag then Truth v.keyboard.flag
    else (if word == word_of SkipOnPrinterFlag then Truth v.printer.flag
    else (if word == word_of ReadReaderBuffer || word == word_of ReadReaderBufferAndFetchFrame
    then Byte v.reader.buffer
    else (if word == word_of ReadKeyboardBuffer || word == word_of TakeKeyboardByte
    then Byte v.keyboard.buffer
    else Silent)))))

-- RFC, alone or with RRB: the words that drop the reader's byte and fetch the next frame.
abbrev pub fetches : ℕ → Bool
fetches word = word == word_of FetchReaderFrame || word == word_of ReadReaderBufferAndFetchFrame

-- KCF, KCC and KRB: the words that clear the keyboard's flag.
abbrev pub clears_keyboard : ℕ → Bool
clears_keyboard word =
    word == word_of ClearKeyboardFlag ||
    (word == word_of ClearKeyboardFlagAndAccumulator || word == word_of TakeKeyboardByte)

-- The devices after a word, given the accumulator before it. Words that are not listed here leave the
-- devices as they are.
unfoldable pub devices_after : Devices → ℕ → ℕ → Devices
devices_after v word ac =
    if word == word_of ReadReaderBuffer then record v { reader = with_reader_flag false v.reader }
    else (if fetches word then record v { reader = fetched v.reader }
    else (if word == word_of ClearPunchFlag then record v { punch = with_writer_flag false v.punch }
    else (if word == word_of Punch then record v { punch = given ac v.punch }
    else (if word == word_of ClearPunchFlagAndPunch
    then record v { punch = given ac (with_writer_flag false v.punch) }
    else (if clears_keyboard word then record v { keyboard = with_keyboard_flag false v.keyboard }
    else (if word == word_of SetPrinterFlag then record v { printer = with_writer_flag true v.printer }
    else (if word == word_of ClearPrinterFlag then record v { printer = with_writer_flag false v.printer }
    else (if word == word_of Print then record v { printer = given ac v.printer }
    else (if word == word_of ClearPrinterFlagAndPrint
    then record v { printer = given ac (with_writer_flag false v.printer) }
    else v)))))))))

-- The machine and its devices, and the address of the HLT at which the machine is halted; none
-- while it runs.
pub record WorldState : Type 0 where
  pub state : State
  pub devices : Devices
  pub halted_at : Option ℕ

-- The word at the program counter.
abbrev pub word_at_pc : WorldState → ℕ
word_at_pc w = w.state.memory w.state.pc

-- The answer of the devices and the switches to the next instruction.
abbrev pub answer_of : Profile → WorldState → Answer
answer_of profile w = answer_taken (instruction profile w.state) (answer_to w.devices (word_at_pc w)) w.devices.switches

-- One instruction is executed: the table leads from one state to the other with the answer of the devices, and a HLT
-- halts the machine at its address.
pub record CarriesOut (profile : Profile) (w x : WorldState) : Type 0 where
  pub step : Step profile w.state (answer_of profile w) x.state
  pub devices : x.devices ≡ devices_after w.devices (word_at_pc w) w.state.ac
  pub halted_at : x.halted_at ≡ (if halts_after (instruction profile w.state) then Some w.state.pc else None)

-- One instruction is attempted: it is executed or, if the word has no meaning, nothing changes.
abbrev pub Instructs : Profile → WorldState → WorldState → Type 0
Instructs profile w x =
    CarriesOut profile w x ⊎ ((instruction profile w.state ≡ Undefined) × (x ≡ w))
