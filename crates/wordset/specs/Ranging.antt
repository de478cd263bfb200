-- A set gone through range by range.
use Rattle.std.specs.Prelude.{◌≡◌, ℕ, ◌+◌, ◌<◌, ◌≤◌, true, false, List, Option, MatchOption}
use Rattle.wordset.specs.Words.{Words, IsFirstFrom, HasNoneFrom}
use Rattle.wordset.specs.Lanes.{words}
use Rattle.wordset.specs.declared.ranges.Ranges.{Ranges}

-- The words from the first to the last are in the set, and the word behind the last is not.
pub record IsLastFrom (first : ℕ) (set : Words) (last : ℕ) : Type 0 where
  pub small : last < 4096
  pub reached : first ≤ last
  pub within : (v : ℕ) → first ≤ v → v ≤ last → set v ≡ true
  pub ended : last + 1 < 4096 → set (last + 1) ≡ false

-- The iterator goes through the set of these lanes, and its next range begins with the least word from a number on.
pub record RangesFrom (lanes : List ℕ) (from : ℕ) (it : Ranges) : Type 0 where
  pub set : it.set.now ≡ lanes
  pub next : it.next ≡ from

-- The iterator gives the least word of its set from its place on, with the last of the range that begins there, and goes on
-- behind that range through the same set; it gives none if no word is left.
abbrev pub GivesRange : Ranges → Option (ℕ × ℕ) → Ranges → Type 0
GivesRange before given after = MatchOption given
    (HasNoneFrom before.next (words before.set.now))
    (λ range. IsFirstFrom before.next (words before.set.now) range.0 × IsLastFrom range.0 (words before.set.now) range.1
    × RangesFrom before.set.now (range.1 + 1) after)
