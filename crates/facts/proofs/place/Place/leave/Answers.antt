use Rattle.std.proofs.Common.{◌∙◌, ap}
use Rattle.wordset.specs.Words.{one, all_words}
use Rattle.domain.specs.Facts.{Fact}
use Rattle.domain.specs.FactInCode.{fact_in_code}
use Rattle.facts.specs.PlaceInCode.{place_in_code}
use Rattle.transfer.specs.Outcomes.{goes}
use Rattle.facts.proofs.place.Place.leave.Goals as goal

pub returns : goal.returns
returns g c = c.go_on.ensures (fact_in_code c.args.fact.now) c.put_words_known.ensures ∙ ap (λ (x : Fact). goes (place_in_code c.args.self.now) all_words (fact_in_code c.args.fact.now) all_words (one c.args.next) x) c.copy_from.ensures.fact
