use Rattle.std.proofs.Common.{ap, refl}
use Rattle.wordset.specs.Words.{Words, one, plus, all_words}
use Rattle.wordset.specs.Lanes.{words}
use Rattle.domain.specs.Facts.{Fact}
use Rattle.domain.specs.FactInCode.{fact_in_code}
use Rattle.facts.specs.PlaceInCode.{place_in_code}
use Rattle.transfer.proofs.OutcomeLemmas.{plus_two}
use Rattle.transfer.proofs.ComesLemmas.{chosen_goes, both_are, all_reached}
use Rattle.facts.proofs.place.Place.count_several.Goals as goal

pub returns : goal.returns
returns g c =
    let pl = (place_in_code c.args.self.now) in
    let f : Fact = (fact_in_code c.args.fact.now) in
    let p : Words = (words c.args.targets.now) in
    both_are
    (chosen_goes pl p f all_words (one (plus c.args.at 2)) _
    (c.is_alive-comes.ensures p all_words c.has_some-reached.ensures (all_reached refl)) c.go_to_if.ensures c.may_some_hold.ensures
    c.put_words_known.ensures (ap one (plus_two c.args.at c.increment.result c.increment-2.result c.increment.ensures c.increment-2.ensures)) c.take_counted_among.ensures)
    (chosen_goes pl p f all_words (one (plus c.args.at 1)) _
    (c.is_alive-comes-2.ensures p all_words c.has_some-reached.ensures (all_reached refl)) c.go_to_if-2.ensures c.may_some_hold-2.ensures
    c.put_words_known.ensures (ap one c.increment-3.ensures) c.take_counted_among-2.ensures)
