use Rattle.std.proofs.Common.{◌≡◌, ◌⊎◌, true}
use Rattle.wordset.specs.Lanes.{words}
use Rattle.wordset.proofs.IterLemmas.{Passed}
use Rattle.domain.specs.FactInCode.{fact_in_code}
use Rattle.facts.specs.Conditions.{CountsItsReturn, MovesItsReturn}
use Rattle.facts.specs.PlaceInCode.{place_in_code, meaning_in}
use Rattle.facts.proofs.place.Place.entries_are_kept.Given as goal

abbrev pub invariant-loop-cell : goal.invariant-loop-cell
invariant-loop-cell g l =
    Passed (λ a. (place_in_code l.self).declaration.entry a ≡ true → CountsItsReturn (place_in_code l.self) (fact_in_code l.fact) (meaning_in (place_in_code l.self) l.at l.word) a ⊎ MovesItsReturn (place_in_code l.self) (fact_in_code l.fact) (meaning_in (place_in_code l.self) l.at l.word) a) (words l.initial.cell-iterator.set.now) l.cell-iterator
