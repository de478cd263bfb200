-- The order in which the conditions on a certificate are asked.
use Rattle.std.specs.Prelude.{ℕ, ◌+◌, ◌*◌, Bool, true, false, if◌then◌else◌}
use Rattle.facts.specs.declared.Condition.{Condition}
use Rattle.facts.specs.declared.Condition.TheVariants.{V1, V2, V3, V4, V5, V6, V7, V8, V9, V10, V11, V12, V13, V14, V15, V16}

-- The condition on the start.
abbrev pub is_first_condition : Condition → Bool
is_first_condition V1 = true
is_first_condition _ = false

-- The place of a condition among those at one address.
abbrev pub place_among : Condition → ℕ
place_among V1 = 0
place_among V2 = 1
place_among V3 = 2
place_among V5 = 3
place_among V14 = 4
place_among V6 = 5
place_among V13 = 6
place_among V7 = 7
place_among V8 = 8
place_among V9 = 9
place_among V10 = 10
place_among V12 = 11
place_among V11 = 12
place_among V4 = 13
place_among V15 = 14
place_among V16 = 15

-- The order in which the conditions are asked: the first one, then by rising address, then by the place among those at
-- one address.
abbrev pub order : Condition → ℕ → ℕ
order v a = if is_first_condition v then 0 else 16 * a + place_among v
