use Rattle.wordset.specs.Words.{nothing}
use Rattle.wordset.specs.Lanes.{words}
use Rattle.wordset.proofs.IterLemmas.{Gathered}
use Rattle.domain.specs.FactInCode.{fact_in_code}
use Rattle.transfer.specs.References.{words_in}
use Rattle.facts.specs.PlaceInCode.{place_in_code}
use Rattle.facts.proofs.place.Place.put_words_at_each.Given as goal

abbrev pub invariant-loop-cell : goal.invariant-loop-cell
invariant-loop-cell g l = Gathered (words_in (place_in_code l.self) (fact_in_code l.fact)) (words l.cells) nothing (words l.place) l.cell-iterator
