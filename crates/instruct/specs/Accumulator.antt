-- Which words test the accumulator, and which ones replace it, whatever it held.
use Rattle.std.specs.Prelude.{ℕ, ◌&&◌, ◌||◌, Bool, true, false, not, Option, Some, None}
use Rattle.instruct.specs.declared.Format.{Format}
use Rattle.instruct.specs.declared.Format.TheVariants as format
use Rattle.instruct.specs.declared.Profile.{Profile}
use Rattle.instruct.specs.declared.Operation.{Operation}
use Rattle.instruct.specs.declared.Operation.TheVariants as operation
use Rattle.instruct.specs.Bits.{has_bit}
use Rattle.instruct.specs.Instructions.{Clears, DeviceAction, Takes, device_action, format_of, is_group2}
use Rattle.instruct.specs.Operates.{MqOperate, Mqa, mq_operate_of}
use Rattle.instruct.specs.Skips.{may_go_on, skip_condition_of}

-- A word of group 2 tests the accumulator with SMA (0100) or SZA (0040), which are SPA and SNA where they are reversed. SNL tests only
-- the link, and SKP tests nothing.
abbrev pub tests_accumulator : ℕ → Bool
tests_accumulator word = is_group2 (format_of word) && (has_bit 6 word || has_bit 5 word)

-- A word of group 2 skips in any case, as SKP does.
abbrev pub skips_always : ℕ → Bool
skips_always word = is_group2 (format_of word) && not (may_go_on (skip_condition_of word))

-- Of the memory references, DCA alone replaces the accumulator: it stores and then clears it. AND and TAD combine it with their operand.
abbrev pub replaces_by_reference : Operation → Bool
replaces_by_reference operation.Dca = true
replaces_by_reference other = false

-- What a device word does to the processor replaces the accumulator: KCC clears it, and KRB puts a byte in its place.
abbrev pub replaces_by_device : Option DeviceAction → Bool
replaces_by_device (Some Clears) = true
replaces_by_device (Some Takes) = true
replaces_by_device other = false

-- Each operation of group 3 clears the accumulator or puts MQ in its place, but for MQA, which ors MQ into it.
abbrev pub replaces_by_mq : Option MqOperate → Bool
replaces_by_mq (Some Mqa) = false
replaces_by_mq (Some other) = true
replaces_by_mq None = false

-- A word of this format replaces the accumulator. In groups 1 and 2 it does so with CLA (0200).
abbrev pub replaces_as : Profile → ℕ → Format → Bool
replaces_as profile word (format.Reference o) = replaces_by_reference o
replaces_as profile word format.Device = replaces_by_device (device_action profile word)
replaces_as profile word format.Group1 = has_bit 7 word
replaces_as profile word format.Group2 = has_bit 7 word
replaces_as profile word format.Group3 = replaces_by_mq (mq_operate_of word)

-- On a machine of this profile, the accumulator after the word does not depend on the accumulator before it.
abbrev pub replaces_accumulator : Profile → ℕ → Bool
replaces_accumulator profile word = replaces_as profile word (format_of word)
