use Rattle.std.proofs.Common.{◌∙◌, sym, ap, refl}
use Rattle.wordset.specs.Words.{Words, one, plus, all_words}
use Rattle.wordset.specs.Lanes.{words}
use Rattle.domain.specs.Facts.{Fact}
use Rattle.domain.specs.FactInCode.{fact_in_code}
use Rattle.facts.specs.PlaceInCode.{place_in_code}
use Rattle.wordset.specs.Words.{has_some}
use Rattle.domain.specs.Locations.{Ac}
use Rattle.domain.specs.Moves.{taking, weakly_updated}
use Rattle.transfer.specs.Outcomes.{ac_of, deposited}
use Rattle.transfer.proofs.ComesLemmas.{goes_on, all_reached}
use Rattle.facts.proofs.place.Place.deposit.Goals as goal

pub returns-in-Some : goal.returns-in-Some
returns-in-Some g c =
    let pl = (place_in_code c.args.self.now) in
    let f : Fact = (fact_in_code c.args.fact.now) in
    let p : Words = (words c.args.targets.now) in
    let y = c.in-Some.cell in
    rw (sym c.requires.single ∙ c.in-Some.is) (goes_on pl p f (ac_of pl f) (one (plus c.args.at 1)) _
    (c.is_alive-comes.ensures p (ac_of pl f) c.has_some-reached.ensures (c.has_some.ensures ∙ ap has_some c.put_words_known.ensures)) c.go_to.ensures c.put_words_known.ensures (ap one c.increment.ensures)
    (c.put_deposited.ensures ∙ ap (λ (s : Words). deposited pl y s f) c.put_words_known.ensures))

pub returns-in-None : goal.returns-in-None
returns-in-None g c =
    let pl = (place_in_code c.args.self.now) in
    let f : Fact = (fact_in_code c.args.fact.now) in
    let p : Words = (words c.args.targets.now) in
    rw (sym c.requires.single ∙ c.in-None.is) (goes_on pl p f all_words (one (plus c.args.at 1)) _
    (c.is_alive-comes-in-None.ensures p all_words c.has_some-reached.ensures (all_reached refl)) c.go_to-in-None.ensures c.put_words_known.ensures (ap one c.increment-in-None.ensures)
    (c.take_deposited_among.ensures ∙ ap (λ (s : Words). taking Ac (one 0) (weakly_updated p (λ a. s) f)) c.put_words_known.ensures))
