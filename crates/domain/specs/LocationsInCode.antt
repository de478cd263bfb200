-- Names as they are kept in code, and what they mean.
use Rattle.domain.specs.Locations.{Ac, Cell}
use Rattle.domain.specs.Locations as spec
use Rattle.domain.specs.declared.location.Location.{Location}
use Rattle.domain.specs.declared.location.Location.TheVariants as name

-- The name that is meant.
abbrev pub location_of : Location → spec.Location
location_of name.Accumulator = Ac
location_of (name.Cell a) = Cell a
