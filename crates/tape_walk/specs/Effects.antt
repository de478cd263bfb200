-- What a word does to control, as far as the word alone tells.
use Rattle.std.specs.Prelude.{ℕ, if◌then◌else◌}
use Rattle.instruct.specs.declared.Profile.{Profile}
use Rattle.instruct.specs.declared.Instruction.{Instruction}
use Rattle.instruct.specs.declared.Instruction.TheVariants.{Memory, Operate1, Operate2, Operate3, Iot, Unsupported}
use Rattle.instruct.specs.declared.Operation.{Operation}
use Rattle.instruct.specs.declared.Operation.TheVariants as operation
use Rattle.instruct.specs.declared.microinstructions.SkipCondition.{SkipCondition}
use Rattle.instruct.specs.declared.microinstructions.SkipCondition.TheVariants.{Never, Sometimes}
use Rattle.instruct.specs.Bits.{named_cell, is_indirect}
use Rattle.instruct.specs.Operates.{is_halt}
use Rattle.instruct.specs.Instructions.{instruction_of, operation_of, device_action}
use Rattle.instruct.specs.Skips.{skip_condition_of, is_skip}
use Rattle.tape_walk.specs.declared.effect.MemoryReference.{MemoryReference}
use Rattle.tape_walk.specs.declared.effect.ControlEffect.{ControlEffect}
use Rattle.tape_walk.specs.declared.effect.ControlEffect.TheVariants as effect

-- The memory reference that a word is at an address.
abbrev pub reference_of : ℕ → ℕ → MemoryReference
reference_of word at =
    record { operation = operation_of word; named = named_cell word at; is_indirect = is_indirect word }

-- Of the memory references, ISZ alone may skip.
abbrev pub condition_of : Operation → SkipCondition
condition_of operation.And = Never
condition_of operation.Tad = Never
condition_of operation.Isz = Sometimes
condition_of operation.Dca = Never
condition_of operation.Jms = Never
condition_of operation.Jmp = Never

-- A word of group 2 skips by its tests, and may halt.
abbrev pub effect_of_group2 : ℕ → ControlEffect
effect_of_group2 word =
    if is_halt word then effect.Halts (skip_condition_of word) else effect.GoesOn (skip_condition_of word)

-- A device word may skip if it asks for a flag.
abbrev pub device_condition : Profile → ℕ → SkipCondition
device_condition profile word = if is_skip (device_action profile word) then Sometimes else Never

-- What a word of each kind does to control: a memory reference is told as it is, and words of groups 1 and 3
-- never skip.
abbrev pub effect_by_kind : Instruction → Profile → ℕ → ℕ → ControlEffect
effect_by_kind Memory profile word at = effect.Refers (reference_of word at)
effect_by_kind Operate1 profile word at = effect.GoesOn Never
effect_by_kind Operate2 profile word at = effect_of_group2 word
effect_by_kind Operate3 profile word at = effect.GoesOn Never
effect_by_kind Iot profile word at = effect.GoesOn (device_condition profile word)
effect_by_kind Unsupported profile word at = effect.Unsupported

-- What a word at an address does to control on a machine of a profile.
unfoldable pub effect_of : Profile → ℕ → ℕ → ControlEffect
effect_of profile word at = effect_by_kind (instruction_of profile word) profile word at
