-- Turns, and the faults of a guess.
use Rattle.std.specs.Prelude.{◌≡◌, ℕ}
use Rattle.turns.specs.declared.GuessFault.{GuessFault}
use Rattle.turns.specs.declared.GuessFault.TheVariants.{TurnsSpent}

-- How many turns were taken, and how many there are at most.
pub record Count : Type 0 where
  pub spent : ℕ
  pub limit : ℕ

-- If the fault is that the turns are spent, all of them are.
abbrev pub IsSpentUp : Count → GuessFault → Type 0
IsSpentUp c fault = fault ≡ TurnsSpent → c.spent ≡ c.limit
