use Rattle.std.proofs.Common.{◌≡◌, false}
use Rattle.wordset.specs.Lanes.{words}
use Rattle.wordset.proofs.IterLemmas.{Passed}
use Rattle.domain.specs.Locations.{Cell}
use Rattle.domain.specs.Narrowing.{words_known}
use Rattle.domain.specs.FactInCode.{fact_in_code}
use Rattle.transfer.specs.Shaped.{has_last_or_other}
use Rattle.facts.specs.PlaceInCode.{place_in_code}
use Rattle.facts.proofs.place.Place.may_some_hold.Given as goal

abbrev pub invariant-loop-cell : goal.invariant-loop-cell
invariant-loop-cell g l = Passed (λ y. has_last_or_other l.last (words_known (place_in_code l.self) (fact_in_code l.fact) (Cell y)) ≡ false) (words l.cells) l.cell-iterator
