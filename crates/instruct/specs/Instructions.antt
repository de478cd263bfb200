-- The instruction table: what each word of twelve bits means at its address, on a machine of each profile.
use Rattle.std.specs.Prelude.{ℕ, ◌/◌, nat_lt, Bool, true, false, not, ◌||◌, ◌==◌, if◌then◌else◌, Option, Some, None}
use Rattle.std.specs.Option.{option_map}
use Rattle.instruct.specs.declared.Profile.{Profile}
use Rattle.instruct.specs.declared.Profile.TheVariants.{Pdp8I, Pdp8E}
use Rattle.instruct.specs.declared.Instruction.{Instruction}
use Rattle.instruct.specs.declared.Instruction.TheVariants.{Memory, Operate1, Operate2, Operate3, Iot, Unsupported}
use Rattle.instruct.specs.declared.Operation.{Operation}
use Rattle.instruct.specs.declared.Operation.TheVariants as operation
use Rattle.instruct.specs.declared.Format.{Format}
use Rattle.instruct.specs.declared.Format.TheVariants as format
use Rattle.instruct.specs.declared.devices.DeviceOperation.{DeviceOperation}
use Rattle.instruct.specs.declared.devices.DeviceOperation.TheVariants.{DisableInterrupts, SkipOnReaderFlag, ReadReaderBuffer, FetchReaderFrame, ReadReaderBufferAndFetchFrame, SkipOnPunchFlag, ClearPunchFlag, Punch, ClearPunchFlagAndPunch, SkipOnKeyboardFlag, ClearKeyboardFlagAndAccumulator, ReadKeyboardBuffer, TakeKeyboardByte, SkipOnPrinterFlag, ClearPrinterFlag, Print, ClearPrinterFlagAndPrint, ClearKeyboardFlag, SetPrinterFlag}
use Rattle.instruct.specs.Bits.{has_bit, named_cell, is_indirect}
use Rattle.instruct.specs.Devices.{device_operation}
use Rattle.instruct.specs.Operates.{MqOperate, mq_operate_of}

-- What a device word does to the processor: it skips if a flag is set, ors the byte of a device into the accumulator,
-- clears the accumulator, replaces it by a byte, or does not change it.
pub data DeviceAction : Type 0 where
  Skips : DeviceAction
  Ors : DeviceAction
  Clears : DeviceAction
  Takes : DeviceAction
  Leaves : DeviceAction

-- The meaning of a word: a memory reference with its indirect bit and its named cell, an operate word of one of the
-- three groups, a device word, or none.
pub data Meaning : Type 0 where
  And : Bool → ℕ → Meaning
  Tad : Bool → ℕ → Meaning
  Isz : Bool → ℕ → Meaning
  Dca : Bool → ℕ → Meaning
  Jms : Bool → ℕ → Meaning
  Jmp : Bool → ℕ → Meaning
  Group1 : ℕ → Meaning
  Group2 : ℕ → Meaning
  Group3 : MqOperate → Meaning
  Device : DeviceAction → Meaning
  Undefined : Meaning

-- The profile is that of the PDP-8/E.
abbrev pub is_8e : Profile → Bool
is_8e Pdp8I = false
is_8e Pdp8E = true

-- What each device operation does to the processor: RSF, PSF, KSF and TSF may skip; RRB, alone or with RFC, and KRS or
-- a byte into the accumulator; KCC clears the accumulator; KRB replaces it by a byte; all others, including IOF, do
-- not change the processor.
abbrev pub processor_action : DeviceOperation → DeviceAction
processor_action DisableInterrupts = Leaves
processor_action SkipOnReaderFlag = Skips
processor_action ReadReaderBuffer = Ors
processor_action FetchReaderFrame = Leaves
processor_action ReadReaderBufferAndFetchFrame = Ors
processor_action SkipOnPunchFlag = Skips
processor_action ClearPunchFlag = Leaves
processor_action Punch = Leaves
processor_action ClearPunchFlagAndPunch = Leaves
processor_action SkipOnKeyboardFlag = Skips
processor_action ClearKeyboardFlagAndAccumulator = Clears
processor_action ReadKeyboardBuffer = Ors
processor_action TakeKeyboardByte = Takes
processor_action SkipOnPrinterFlag = Skips
processor_action ClearPrinterFlag = Leaves
processor_action Print = Leaves
processor_action ClearPrinterFlagAndPrint = Leaves
processor_action ClearKeyboardFlag = Leaves
processor_action SetPrinterFlag = Leaves

-- What a word does to the processor as a device word, or none if it is not one.
abbrev pub device_action : Profile → ℕ → Option DeviceAction
device_action profile word = option_map processor_action (device_operation profile word)

-- The meaning of a word as a device word, given what it does to the processor; if it is not a device word, it
-- has no meaning.
abbrev pub device_meaning : Option DeviceAction → Meaning
device_meaning (Some action) = Device action
device_meaning None = Undefined

-- A word of group 1 has at most one rotate, and 0002 without a rotate only on the 8/E, where it is
-- BSW.
abbrev pub is_group1 : Profile → ℕ → Bool
is_group1 profile word =
    if has_bit 3 word then not (has_bit 2 word)
    else (has_bit 2 word || (not (has_bit 1 word) || is_8e profile))

-- The meaning of a word as an operation of group 3; if it is none of the six, it has no meaning.
abbrev pub mq_meaning : Option MqOperate → Meaning
mq_meaning (Some operate) = Group3 operate
mq_meaning None = Undefined

-- Only the 8/E has words of group 3.
abbrev pub group3_meaning : Profile → ℕ → Meaning
group3_meaning Pdp8I word = Undefined
group3_meaning Pdp8E word = mq_meaning (mq_operate_of word)

-- An operate word without 0400 belongs to group 1, one with 0400 to group 2, and one with 0400 and
-- 0001 to group 3.
abbrev pub operate_meaning : Profile → ℕ → Meaning
operate_meaning profile word =
    if has_bit 8 word
    then (if has_bit 0 word then group3_meaning profile word else Group2 word)
    else (if is_group1 profile word then Group1 word else Undefined)

-- The meaning of a word at an address: bits 0 to 2 are the operation.
unfoldable pub meaning_of : Profile → ℕ → ℕ → Meaning
meaning_of profile at word =
    if word / 512 == 0 then And (is_indirect word) (named_cell word at)
    else (if word / 512 == 1 then Tad (is_indirect word) (named_cell word at)
    else (if word / 512 == 2 then Isz (is_indirect word) (named_cell word at)
    else (if word / 512 == 3 then Dca (is_indirect word) (named_cell word at)
    else (if word / 512 == 4 then Jms (is_indirect word) (named_cell word at)
    else (if word / 512 == 5 then Jmp (is_indirect word) (named_cell word at)
    else (if word / 512 == 6 then device_meaning (device_action profile word)
    else operate_meaning profile word))))))

-- The operation of a memory reference: its bits 0 to 2. Words from 6000 on, which are not memory references, count
-- as JMP.
abbrev pub operation_of : ℕ → Operation
operation_of word =
    if word / 512 == 0 then operation.And
    else (if word / 512 == 1 then operation.Tad
    else (if word / 512 == 2 then operation.Isz
    else (if word / 512 == 3 then operation.Dca
    else (if word / 512 == 4 then operation.Jms
    else operation.Jmp))))

-- The words below 6000 are memory references.
abbrev pub refers_to_memory : ℕ → Bool
refers_to_memory word = nat_lt word 0o6000

-- The format of a word: bits 0 to 2 say whether it is a memory reference (0 to 5), a device word (6) or an operate word
-- (7). An operate word without 0400 is of group 1, one with 0400 of group 2, and one with 0400 and 0001 of group 3.
abbrev pub format_of : ℕ → Format
format_of word =
    if nat_lt (word / 512) 6 then format.Reference (operation_of word)
    else (if word / 512 == 6 then format.Device
    else (if has_bit 8 word then (if has_bit 0 word then format.Group3 else format.Group2) else format.Group1))

-- The format is that of group 2.
abbrev pub is_group2 : Format → Bool
is_group2 (format.Reference _) = false
is_group2 format.Device = false
is_group2 format.Group1 = false
is_group2 format.Group2 = true
is_group2 format.Group3 = false

-- The words of the three groups are operate words.
abbrev pub is_operate : Format → Bool
is_operate (format.Reference _) = false
is_operate format.Device = false
is_operate format.Group1 = true
is_operate format.Group2 = true
is_operate format.Group3 = true

-- The meaning of a memory reference by its operation, its indirect bit and its named cell.
abbrev pub reference : Operation → Bool → ℕ → Meaning
reference operation.And indirect named = And indirect named
reference operation.Tad indirect named = Tad indirect named
reference operation.Isz indirect named = Isz indirect named
reference operation.Dca indirect named = Dca indirect named
reference operation.Jms indirect named = Jms indirect named
reference operation.Jmp indirect named = Jmp indirect named

-- The meaning of a word at an address, as a memory reference with this operation.
abbrev pub reference_at : Operation → ℕ → ℕ → Meaning
reference_at operation word at = reference operation (is_indirect word) (named_cell word at)

-- The kind of a meaning, as the code names it.
abbrev pub kind_of : Meaning → Instruction
kind_of (And _ _) = Memory
kind_of (Tad _ _) = Memory
kind_of (Isz _ _) = Memory
kind_of (Dca _ _) = Memory
kind_of (Jms _ _) = Memory
kind_of (Jmp _ _) = Memory
kind_of (Group1 _) = Operate1
kind_of (Group2 _) = Operate2
kind_of (Group3 _) = Operate3
kind_of (Device _) = Iot
kind_of Undefined = Unsupported

-- The kind of a word, which is the same at every address.
unfoldable pub instruction_of : Profile → ℕ → Instruction
instruction_of profile word = kind_of (meaning_of profile 0 word)
