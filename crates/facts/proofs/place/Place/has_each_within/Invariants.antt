use Rattle.std.proofs.Common.{drop, map}
use Rattle.std.specs.Prelude.{◌↔◌}
use Rattle.facts.specs.Entailing.{EachWithin}
use Rattle.facts.specs.PlaceInCode.{place_in_code}
use Rattle.domain.specs.CellsInCode.{cell_set_of}
use Rattle.facts.proofs.place.Place.has_each_within.Given as goal

abbrev pub invariant-loop-entry : goal.invariant-loop-entry
invariant-loop-entry g l = EachWithin (place_in_code l.self) (g.K.KnownFact.known l.fact) (map cell_set_of (drop l.entry-index l.cells)) ↔ EachWithin (place_in_code l.self) (g.K.KnownFact.known l.fact) (map cell_set_of l.cells)
