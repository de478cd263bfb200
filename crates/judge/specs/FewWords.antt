-- What the code has asked so far, in the order of the conditions; it serves private contracts.
use Rattle.std.specs.Prelude.{Bool, true, false}
use Rattle.facts.specs.declared.Condition.{Condition}
use Rattle.facts.specs.declared.Condition.TheVariants.{V3}

-- The condition asks for few words.
abbrev pub asks_few : Condition → Bool
asks_few V3 = true
asks_few _ = false
