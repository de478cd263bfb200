use Rattle.std.proofs.Common.{◌∙◌, sym}
use Rattle.wordset.specs.Lanes.{words}
use Rattle.domain.specs.FactInCode.{fact_in_code}
use Rattle.facts.specs.PlaceInCode.{place_in_code}
use Rattle.facts.proofs.OperandLemmas.{words_of_only}
use Rattle.facts.proofs.place.Place.put_words_at.Goals as goal

pub returns-in-Some : goal.returns-in-Some
returns-in-Some g c = c.put_words_in.ensures ∙ words_of_only (place_in_code c.args.self.now) (fact_in_code c.args.fact.now) (words c.args.cells.now) c.in-Some.cell (sym c.requires ∙ c.in-Some.is)
