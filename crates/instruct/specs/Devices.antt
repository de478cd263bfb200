-- The device words: those of the teletype, of the high-speed reader and punch, and IOF.
use Rattle.std.specs.Prelude.{ℕ, ◌==◌, List, [], ◌∷◌, ◌++◌, Option}
use Rattle.std.specs.List.{find}
use Rattle.instruct.specs.declared.Profile.{Profile}
use Rattle.instruct.specs.declared.Profile.TheVariants.{Pdp8I, Pdp8E}
use Rattle.instruct.specs.declared.devices.DeviceOperation.{DeviceOperation}
use Rattle.instruct.specs.declared.devices.DeviceOperation.TheVariants.{DisableInterrupts, SkipOnReaderFlag, ReadReaderBuffer, FetchReaderFrame, ReadReaderBufferAndFetchFrame, SkipOnPunchFlag, ClearPunchFlag, Punch, ClearPunchFlagAndPunch, SkipOnKeyboardFlag, ClearKeyboardFlagAndAccumulator, ReadKeyboardBuffer, TakeKeyboardByte, SkipOnPrinterFlag, ClearPrinterFlag, Print, ClearPrinterFlagAndPrint, ClearKeyboardFlag, SetPrinterFlag}

-- The word of each operation.
abbrev pub word_of : DeviceOperation → ℕ
word_of DisableInterrupts = 0o6002
word_of SkipOnReaderFlag = 0o6011
word_of ReadReaderBuffer = 0o6012
word_of FetchReaderFrame = 0o6014
word_of ReadReaderBufferAndFetchFrame = 0o6016
word_of SkipOnPunchFlag = 0o6021
word_of ClearPunchFlag = 0o6022
word_of Punch = 0o6024
word_of ClearPunchFlagAndPunch = 0o6026
word_of SkipOnKeyboardFlag = 0o6031
word_of ClearKeyboardFlagAndAccumulator = 0o6032
word_of ReadKeyboardBuffer = 0o6034
word_of TakeKeyboardByte = 0o6036
word_of SkipOnPrinterFlag = 0o6041
word_of ClearPrinterFlag = 0o6042
word_of Print = 0o6044
word_of ClearPrinterFlagAndPrint = 0o6046
word_of ClearKeyboardFlag = 0o6030
word_of SetPrinterFlag = 0o6040

-- The operations of a PDP-8/I.
abbrev pub operations : List DeviceOperation
operations =
    DisableInterrupts ∷ SkipOnReaderFlag ∷ ReadReaderBuffer ∷ FetchReaderFrame ∷
    ReadReaderBufferAndFetchFrame ∷ SkipOnPunchFlag ∷ ClearPunchFlag ∷
    Punch ∷ ClearPunchFlagAndPunch ∷ SkipOnKeyboardFlag ∷
    ClearKeyboardFlagAndAccumulator ∷ ReadKeyboardBuffer ∷ TakeKeyboardByte ∷
    SkipOnPrinterFlag ∷ ClearPrinterFlag ∷ Print ∷ ClearPrinterFlagAndPrint ∷ []

-- The operations that a PDP-8/E has in addition to those of a PDP-8/I: KCF and TFL.
abbrev pub more_operations : Profile → List DeviceOperation
more_operations Pdp8I = []
more_operations Pdp8E = ClearKeyboardFlag ∷ SetPrinterFlag ∷ []

-- The device operation that a word is on a machine of this profile, or none.
unfoldable pub device_operation : Profile → ℕ → Option DeviceOperation
device_operation profile word =
    find (λ o. word == word_of o) (operations ++ more_operations profile)
