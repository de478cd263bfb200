-- When a word skips the next instruction, whatever the accumulator and the link are.
use Rattle.std.specs.Prelude.{ℕ, Bool, true, false, ◌||◌, if◌then◌else◌, Option, Some, None}
use Rattle.instruct.specs.declared.microinstructions.SkipCondition.{SkipCondition}
use Rattle.instruct.specs.declared.microinstructions.SkipCondition.TheVariants.{Never, Sometimes, Always}
use Rattle.instruct.specs.Bits.{has_bit}
use Rattle.instruct.specs.Instructions.{DeviceAction, Skips}

-- A word of group 2 has a test: SMA (0100), SZA (0040) or SNL (0020).
abbrev pub tests_anything : ℕ → Bool
tests_anything word = has_bit 6 word || (has_bit 5 word || has_bit 4 word)

-- A word of group 2 with a test skips for some accumulators and links and not for others. Without a test it skips
-- always where it is reversed (0010), and else never.
abbrev pub skip_condition_of : ℕ → SkipCondition
skip_condition_of word = if tests_anything word then Sometimes else (if has_bit 3 word then Always else Never)

-- The next instruction may be carried out, unless it is always skipped.
abbrev pub may_go_on : SkipCondition → Bool
may_go_on Never = true
may_go_on Sometimes = true
may_go_on Always = false

-- The next instruction may be skipped, unless it never is.
abbrev pub may_skip : SkipCondition → Bool
may_skip Never = false
may_skip Sometimes = true
may_skip Always = true

-- What a device word does to the processor is a skip.
abbrev pub is_skip : Option DeviceAction → Bool
is_skip (Some Skips) = true
is_skip (Some _) = false
is_skip None = false
