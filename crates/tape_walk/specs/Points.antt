-- Points of a program, and sets of them.
use Rattle.std.specs.Prelude.{ℕ, ◌≡◌, ◌+◌, ◌%◌, ◌<◌, ◌≤◌, ◌==◌, ◌⊎◌, Bool, true, false, not, ◌&&◌, ◌||◌, List, [], slice_index_or}
use Rattle.std.specs.List.{list_any}
use Rattle.wordset.specs.Words.{Words}
use Rattle.wordset.specs.Lanes.{words}
use Rattle.tape_walk.specs.declared.points.ProgramPoint.{ProgramPoint}
use Rattle.tape_walk.specs.declared.points.PointSet.{PointSet}

-- Another cell with the same offset.
abbrev pub moved : ProgramPoint → ℕ → ProgramPoint
moved point at = record { at = at; offset = point.offset }

-- The address so many cells behind an address; behind 7777 comes 0000.
abbrev pub cells_behind : ℕ → ℕ → ℕ
cells_behind at count = (at + count) % 4096

-- The set has the cell with this offset.
abbrev pub has : PointSet → ℕ → ℕ → Bool
has set offset at = words (slice_index_or set.by_offset offset []) at

-- The set has the cell with some offset.
abbrev pub has_cell : PointSet → Words
has_cell set at = list_any (λ (cells : List ℕ). words cells at) set.by_offset

-- The point has this offset and this cell.
abbrev pub is_at : ProgramPoint → ℕ → ℕ → Bool
is_at point offset at = offset == point.offset && at == point.at

-- The points of the set, by their offsets and cells, are those for which the test holds.
abbrev pub HasJust : PointSet → (ℕ → ℕ → Bool) → Type 0
HasJust set test = (offset at : ℕ) → offset < 8 → has set offset at ≡ test offset at

-- No point is in the set.
abbrev pub HasNone : PointSet → Type 0
HasNone set = (offset at : ℕ) → offset < 8 → at < 4096 → has set offset at ≡ false

-- The point is in the set, and no point there has a lower offset, or the same offset and a lower cell.
pub record IsFirst (set : PointSet) (point : ProgramPoint) : Type 0 where
  pub counted : point.offset < 8
  pub within : has set point.offset point.at ≡ true
  pub by_offset : (offset at : ℕ) → offset < point.offset → at < 4096 → has set offset at ≡ false
  pub by_cell : (at : ℕ) → at < point.at → has set point.offset at ≡ false

-- The second set has the points of the first one without this point.
abbrev pub LacksOnly : PointSet → PointSet → ProgramPoint → Type 0
LacksOnly old new point = HasJust new (λ offset at. has old offset at && not (is_at point offset at))
