-- The text of a line while it is written.
use Rattle.std.specs.Prelude.{◌≡◌, ◌⊎◌, ℕ, ◌+◌, ◌<◌, ◌≤◌, true, false, List, ◌++◌, take}
use Rattle.wordset.specs.Words.{Words}

-- A text was added to bytes, of which those past the length of the longest line are not kept.
pub record Adds (old new text : List ℕ) : Type 0 where
  pub is : take 49153 new ≡ take 49153 (old ++ text)

-- From one word to another no word is in a set, and after the other one is, unless it is the last word that there is.
pub record IsLastOf (others : Words) (low high : ℕ) : Type 0 where
  pub order : low ≤ high
  pub small : high < 4096
  pub inside : (v : ℕ) → low ≤ v → v ≤ high → others v ≡ false
  pub stops : (high ≡ 4095) ⊎ (others (high + 1) ≡ true)
