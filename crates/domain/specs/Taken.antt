-- What becomes of cells of which one changes, unknown which, as it is kept in code.
use Rattle.std.specs.Prelude.{if◌then◌else◌, List}
use Rattle.wordset.specs.Words.{Words, shifted, union}
use Rattle.wordset.specs.Lanes.{words}
use Rattle.domain.specs.Locations.{has_cell}
use Rattle.domain.specs.TrackedCells.{TrackedCell, tracked}
use Rattle.domain.specs.declared.taking.Change.{Change}
use Rattle.domain.specs.declared.taking.Change.TheVariants.{CountsUp, Takes}

-- The words that the cell that changes may hold then, by those that it may have held.
abbrev pub changed : Change → Words → Words
changed CountsUp set = shifted set 1
changed (Takes other) set = words other.now

-- The entry after the change of one cell of a set: a cell of the set may hold its old word, or a new one.
abbrev pub changed_among : Words → (Words → Words) → List TrackedCell → TrackedCell → TrackedCell
changed_among among new cells c =
    if has_cell among c.address
    then record { address = c.address; set = union (tracked c.address cells) (new (tracked c.address cells)) }
    else c
