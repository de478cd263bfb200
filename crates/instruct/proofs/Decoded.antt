-- Each device operation is the one of its word.
use Rattle.std.proofs.Common.{refl}
use Rattle.instruct.specs.declared.devices.DeviceOperation.TheVariants.{DisableInterrupts, SkipOnReaderFlag, ReadReaderBuffer, FetchReaderFrame, ReadReaderBufferAndFetchFrame, SkipOnPunchFlag, ClearPunchFlag, Punch, ClearPunchFlagAndPunch, SkipOnKeyboardFlag, ClearKeyboardFlagAndAccumulator, ReadKeyboardBuffer, TakeKeyboardByte, SkipOnPrinterFlag, ClearPrinterFlag, Print, ClearPrinterFlagAndPrint, ClearKeyboardFlag, SetPrinterFlag}
use Rattle.instruct.specs.Devices.{device_operation}
use Rattle.instruct.specs.Laws.{OperationsAreDecoded}

pub operations_are_decoded : OperationsAreDecoded
unfolding device_operation
operations_are_decoded DisableInterrupts = refl
operations_are_decoded SkipOnReaderFlag = refl
operations_are_decoded ReadReaderBuffer = refl
operations_are_decoded FetchReaderFrame = refl
operations_are_decoded ReadReaderBufferAndFetchFrame = refl
operations_are_decoded SkipOnPunchFlag = refl
operations_are_decoded ClearPunchFlag = refl
operations_are_decoded Punch = refl
operations_are_decoded ClearPunchFlagAndPunch = refl
operations_are_decoded SkipOnKeyboardFlag = refl
operations_are_decoded ClearKeyboardFlagAndAccumulator = refl
operations_are_decoded ReadKeyboardBuffer = refl
operations_are_decoded TakeKeyboardByte = refl
operations_are_decoded SkipOnPrinterFlag = refl
operations_are_decoded ClearPrinterFlag = refl
operations_are_decoded Print = refl
operations_are_decoded ClearPrinterFlagAndPrint = refl
operations_are_decoded ClearKeyboardFlag = refl
operations_are_decoded SetPrinterFlag = refl
