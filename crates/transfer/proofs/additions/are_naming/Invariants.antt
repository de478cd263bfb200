use Rattle.std.proofs.Common.{◌≡◌, drop, map}
use Rattle.domain.specs.LocationsInCode.{location_of}
use Rattle.domain.specs.InCode.{summand_of}
use Rattle.transfer.specs.Additions.{names}
use Rattle.transfer.proofs.additions.are_naming.Given as goal

abbrev pub invariant-loop-summand : goal.invariant-loop-summand
invariant-loop-summand l = names (location_of l.name) (map summand_of (drop l.summand-index l.summands)) ≡ names (location_of l.name) (map summand_of l.summands)
