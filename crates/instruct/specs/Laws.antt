-- What the kind of a word says of its meaning, and that each device operation is the one of its word.
use Rattle.std.specs.Prelude.{◌≡◌, ℕ, Some}
use Rattle.instruct.specs.declared.Profile.{Profile}
use Rattle.instruct.specs.declared.Profile.TheVariants.{Pdp8E}
use Rattle.instruct.specs.declared.Instruction.TheVariants.{Operate1, Operate2, Operate3, Iot, Unsupported}
use Rattle.instruct.specs.declared.devices.DeviceOperation.{DeviceOperation}
use Rattle.instruct.specs.Devices.{device_operation, word_of}
use Rattle.instruct.specs.Operates.{MqOperate, mq_operate_of}
use Rattle.instruct.specs.Instructions.{Meaning, Group1, Group2, Group3, Device, Undefined, DeviceAction, device_action, kind_of, meaning_of}

-- If a word is of kind Operate1, its meaning is that of group 1 with the word itself, under each profile and at each
-- address.
abbrev pub Group1IsItself : Type 0
Group1IsItself = (profile : Profile) (at word : ℕ) → kind_of (meaning_of profile at word) ≡ Operate1 → meaning_of profile at word ≡ Group1 word

-- If a word is of kind Operate2, its meaning is that of group 2 with the word itself, under each profile and at each
-- address.
abbrev pub Group2IsItself : Type 0
Group2IsItself = (profile : Profile) (at word : ℕ) → kind_of (meaning_of profile at word) ≡ Operate2 → meaning_of profile at word ≡ Group2 word

-- If a word is of kind Operate3, it is one of the six operates of group 3, and its meaning is that one.
abbrev pub Group3IsMqOperate : Type 0
Group3IsMqOperate =
    (profile : Profile) (at word : ℕ) → kind_of (meaning_of profile at word) ≡ Operate3 →
    (o : MqOperate) × (mq_operate_of word ≡ Some o) × (meaning_of profile at word ≡ Group3 o)

-- If a word is of kind Iot, it is a device word of the profile, and its meaning is what that does to the processor.
abbrev pub IotIsDeviceAction : Type 0
IotIsDeviceAction =
    (profile : Profile) (at word : ℕ) → kind_of (meaning_of profile at word) ≡ Iot →
    (a : DeviceAction) × (device_action profile word ≡ Some a) × (meaning_of profile at word ≡ Device a)

-- If a word is of kind Unsupported, it has no meaning, under each profile and at each address.
abbrev pub UnsupportedMeansNothing : Type 0
UnsupportedMeansNothing = (profile : Profile) (at word : ℕ) → kind_of (meaning_of profile at word) ≡ Unsupported → meaning_of profile at word ≡ Undefined

-- On the 8/E each device operation is the one of its word.
abbrev pub OperationsAreDecoded : Type 0
OperationsAreDecoded = (o : DeviceOperation) → device_operation Pdp8E (word_of o) ≡ Some o
