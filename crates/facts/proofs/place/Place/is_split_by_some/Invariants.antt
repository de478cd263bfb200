use Rattle.std.proofs.Common.{◌≡◌}
use Rattle.wordset.specs.Lanes.{words}
use Rattle.domain.specs.Locations.{Cell}
use Rattle.facts.specs.PlaceInCode.{place_in_code}
use Rattle.facts.specs.Landing.{IsSplitBy}
use Rattle.wordset.proofs.IterLemmas.{Passed}
use Rattle.facts.proofs.place.Place.is_split_by_some.Given as goal

abbrev pub invariant-loop-cell : goal.invariant-loop-cell
invariant-loop-cell g l = Passed (λ a. IsSplitBy (place_in_code l.self) (Cell a) (g.P.FactPart.part l.fn.part) (g.F.FactSource.facts l.among) → ⊥) (words l.cells) l.cell-iterator × (g.P.FactPart.part l.part ≡ g.P.FactPart.part l.fn.part)
