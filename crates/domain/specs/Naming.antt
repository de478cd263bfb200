-- Sets of names as they're kept in code.
use Rattle.std.specs.Prelude.{Bool, not}
use Rattle.wordset.specs.Lanes.{words}
use Rattle.domain.specs.Locations.{Location, same, is_outside}
use Rattle.domain.specs.LocationsInCode.{location_of}
use Rattle.domain.specs.Moves.{cells_of}
use Rattle.domain.specs.declared.names.Names.{Names}
use Rattle.domain.specs.declared.names.Names.TheVariants as kept

-- The names that are meant: one; or those of the cells of a set; or the accumulator and those of the cells of a set.
abbrev pub names_of : Names → Location → Bool
names_of (kept.One n) m = same m (location_of n)
names_of (kept.Cells cells) m = cells_of (words cells.now) m
names_of (kept.Changing cells) m = not (is_outside (words cells.now) m)
