-- The names of the words, as a listing of a tape shows them.
use Rattle.std.specs.Prelude.{ℕ, ◌≡◌, ◌+◌, ◌/◌, ◌%◌, Bool, ◌==◌, if◌then◌else◌, List, [], ◌∷◌, ◌++◌, length, codes, Option, Some, None}
use Rattle.std.specs.List.{join_with_byte}
use Rattle.instruct.specs.declared.Profile.{Profile}
use Rattle.instruct.specs.declared.Instruction.{Instruction}
use Rattle.instruct.specs.declared.Instruction.TheVariants.{Memory, Operate1, Operate2, Operate3, Iot, Unsupported}
use Rattle.instruct.specs.Bits.{has_bit, is_indirect}
use Rattle.instruct.specs.Operates.{MqOperate, Mql, Mqa, Swp, Cam, ClaMqa, ClaSwp, mq_operate_of}
use Rattle.instruct.specs.declared.Operation.{Operation}
use Rattle.instruct.specs.declared.Operation.TheVariants as operation
use Rattle.instruct.specs.declared.devices.DeviceOperation.{DeviceOperation}
use Rattle.instruct.specs.declared.devices.DeviceOperation.TheVariants.{DisableInterrupts, SkipOnReaderFlag, ReadReaderBuffer, FetchReaderFrame, ReadReaderBufferAndFetchFrame, SkipOnPunchFlag, ClearPunchFlag, Punch, ClearPunchFlagAndPunch, SkipOnKeyboardFlag, ClearKeyboardFlagAndAccumulator, ReadKeyboardBuffer, TakeKeyboardByte, SkipOnPrinterFlag, ClearPrinterFlag, Print, ClearPrinterFlagAndPrint, ClearKeyboardFlag, SetPrinterFlag}
use Rattle.instruct.specs.Devices.{device_operation}
use Rattle.instruct.specs.Instructions.{instruction_of, operation_of}

-- The mnemonic of a memory reference by its operation.
abbrev pub mnemonic : Operation → List ℕ
mnemonic operation.And = codes "AND"
mnemonic operation.Tad = codes "TAD"
mnemonic operation.Isz = codes "ISZ"
mnemonic operation.Dca = codes "DCA"
mnemonic operation.Jms = codes "JMS"
mnemonic operation.Jmp = codes "JMP"

-- The place in a page as three octal digits; 48 is the code of the digit 0.
abbrev pub place_digits : ℕ → List ℕ
place_digits place = (48 + place / 64) ∷ (48 + place / 8 % 8) ∷ (48 + place % 8) ∷ []

-- The mnemonic, I if the reference is indirect, then Z for page zero or C for the current page with the place in it.
abbrev pub memory_name : ℕ → List ℕ
memory_name word =
    mnemonic (operation_of word) ++ (if is_indirect word then codes " I" else []) ++
    (if has_bit 7 word then codes " C" else codes " Z") ++ place_digits (word % 128)

-- A name that applies where a bit is set.
abbrev pub named_if : Bool → List ℕ → List (List ℕ)
named_if applies name = if applies then name ∷ [] else []

-- The names that apply, with one space between two; NOP where there are none.
abbrev pub spaced : List (List ℕ) → List ℕ
spaced [] = codes "NOP"
spaced (name ∷ names) = join_with_byte 32 (name ∷ names)

-- The name of the rotate in a word of group 1, if there is one: RAR for 0010 and RAL for 0004, RTR and RTL with 0002
-- beside them, and BSW for 0002 without either.
abbrev pub rotate_names : ℕ → List (List ℕ)
rotate_names word =
    if has_bit 3 word then (if has_bit 1 word then codes "RTR" else codes "RAR") ∷ []
    else (if has_bit 2 word then (if has_bit 1 word then codes "RTL" else codes "RAL") ∷ []
    else named_if (has_bit 1 word) (codes "BSW"))

-- The names of what a word of group 1 does, each where its bit is set: CLA, CLL, CMA, CML, IAC, and the rotate. A word
-- of which no such bit is set has none.
abbrev pub group1_names : ℕ → List (List ℕ)
group1_names word =
    named_if (has_bit 7 word) (codes "CLA") ++ named_if (has_bit 6 word) (codes "CLL") ++
    named_if (has_bit 5 word) (codes "CMA") ++ named_if (has_bit 4 word) (codes "CML") ++
    named_if (has_bit 0 word) (codes "IAC") ++ rotate_names word

-- SKP where no test is chosen.
abbrev pub or_skip : List (List ℕ) → List (List ℕ)
or_skip [] = codes "SKP" ∷ []
or_skip (name ∷ names) = name ∷ names

-- The tests of a word of group 2, each where its bit is set: SMA, SZA and SNL; with 0010 instead SPA, SNA and SZL, the
-- reversed ones, or SKP where none of them is chosen.
abbrev pub test_names : ℕ → List (List ℕ)
test_names word =
    if has_bit 3 word
    then or_skip (named_if (has_bit 6 word) (codes "SPA") ++ named_if (has_bit 5 word) (codes "SNA") ++
    named_if (has_bit 4 word) (codes "SZL"))
    else named_if (has_bit 6 word) (codes "SMA") ++ named_if (has_bit 5 word) (codes "SZA") ++
    named_if (has_bit 4 word) (codes "SNL")

-- The names of what a word of group 2 does, each where its bit is set: the tests, then CLA (0200), OSR (0004) and HLT
-- (0002).
abbrev pub group2_names : ℕ → List (List ℕ)
group2_names word =
    test_names word ++ named_if (has_bit 7 word) (codes "CLA") ++ named_if (has_bit 2 word) (codes "OSR") ++
    named_if (has_bit 1 word) (codes "HLT")

-- The name of each of the six operates of group 3; two of them have two words, with CLA first.
abbrev pub group3_name : MqOperate → List ℕ
group3_name Mql = codes "MQL"
group3_name Mqa = codes "MQA"
group3_name Swp = codes "SWP"
group3_name Cam = codes "CAM"
group3_name ClaMqa = codes "CLA MQA"
group3_name ClaSwp = codes "CLA SWP"

-- The name of an operate of group 3, or a question mark where there is none.
abbrev pub group3_name_if : Option MqOperate → List ℕ
group3_name_if (Some operate) = group3_name operate
group3_name_if None = codes "?"

-- The mnemonic of each device operation; the one that reads the reader's byte and fetches the next frame is shown as
-- RRB RFC.
abbrev pub device_name : DeviceOperation → List ℕ
device_name DisableInterrupts = codes "IOF"
device_name SkipOnReaderFlag = codes "RSF"
device_name ReadReaderBuffer = codes "RRB"
device_name FetchReaderFrame = codes "RFC"
device_name ReadReaderBufferAndFetchFrame = codes "RRB RFC"
device_name SkipOnPunchFlag = codes "PSF"
device_name ClearPunchFlag = codes "PCF"
device_name Punch = codes "PPC"
device_name ClearPunchFlagAndPunch = codes "PLS"
device_name SkipOnKeyboardFlag = codes "KSF"
device_name ClearKeyboardFlagAndAccumulator = codes "KCC"
device_name ReadKeyboardBuffer = codes "KRS"
device_name TakeKeyboardByte = codes "KRB"
device_name SkipOnPrinterFlag = codes "TSF"
device_name ClearPrinterFlag = codes "TCF"
device_name Print = codes "TPC"
device_name ClearPrinterFlagAndPrint = codes "TLS"
device_name ClearKeyboardFlag = codes "KCF"
device_name SetPrinterFlag = codes "TFL"

-- The mnemonic of a device operation, or a question mark where there is none.
abbrev pub device_name_if : Option DeviceOperation → List ℕ
device_name_if (Some operation) = device_name operation
device_name_if None = codes "?"

-- The name of a word by its kind: as a memory reference, an operate word of group 1, 2 or 3, or a device word of the
-- profile; a question mark for a word that is not supported.
abbrev pub name_by_kind : Instruction → Profile → ℕ → List ℕ
name_by_kind Memory profile word = memory_name word
name_by_kind Operate1 profile word = spaced (group1_names word)
name_by_kind Operate2 profile word = spaced (group2_names word)
name_by_kind Operate3 profile word = group3_name_if (mq_operate_of word)
name_by_kind Iot profile word = device_name_if (device_operation profile word)
name_by_kind Unsupported profile word = codes "?"

-- The name of a word on a machine of a profile.
unfoldable pub name_of : Profile → ℕ → List ℕ
name_of profile word = name_by_kind (instruction_of profile word) profile word

-- A text is some names, with one space between two.
pub record IsSpaced (names : List (List ℕ)) (text : List ℕ) : Type 0 where
  pub joined : text ≡ join_with_byte 32 names
  pub empty : (length text == 0) ≡ (length names == 0)

-- Whatever names a text is, these stand after them in the text after it.
abbrev pub Adds : List (List ℕ) → List ℕ → List ℕ → Type 0
Adds more before after = (names : List (List ℕ)) → IsSpaced names before → IsSpaced (names ++ more) after
