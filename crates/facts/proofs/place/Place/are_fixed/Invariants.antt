use Rattle.std.proofs.Common.{◌≡◌, true}
use Rattle.wordset.specs.Lanes.{words}
use Rattle.wordset.proofs.IterLemmas.{Passed}
use Rattle.transfer.specs.References.{is_fixed}
use Rattle.facts.specs.PlaceInCode.{place_in_code}
use Rattle.facts.proofs.place.Place.are_fixed.Given as goal

abbrev pub invariant-loop-cell : goal.invariant-loop-cell
invariant-loop-cell g l = Passed (λ a. is_fixed (place_in_code l.self).declaration a ≡ true) (words l.cells) l.cell-iterator
