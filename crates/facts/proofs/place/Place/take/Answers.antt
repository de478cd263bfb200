use Rattle.std.proofs.Common.{◌∙◌, ap}
use Rattle.wordset.specs.Words.{one, all_words}
use Rattle.wordset.specs.Lanes.{words}
use Rattle.domain.specs.Facts.{Fact}
use Rattle.domain.specs.FactInCode.{fact_in_code}
use Rattle.facts.specs.PlaceInCode.{place_in_code}
use Rattle.domain.specs.Locations.{Ac}
use Rattle.domain.specs.Moves.{taking}
use Rattle.transfer.specs.Outcomes.{goes, with_mq}
use Rattle.facts.proofs.place.Place.take.Goals as goal

pub returns : goal.returns
returns g c = c.go_on.ensures (fact_in_code c.args.fact.now) c.put_words_known.ensures
    ∙ ap (λ (x : Fact). goes (place_in_code c.args.self.now) all_words (fact_in_code c.args.fact.now) all_words (one c.increment.result) x) (c.set_mq.ensures.fact ∙ ap (with_mq (words c.args.mq.now)) c.take_for_accumulator.ensures)
    ∙ ap (λ n. goes (place_in_code c.args.self.now) all_words (fact_in_code c.args.fact.now) all_words (one n) (with_mq (words c.args.mq.now) (taking Ac (words c.args.set.now) (fact_in_code c.args.fact.now)))) c.increment.ensures
