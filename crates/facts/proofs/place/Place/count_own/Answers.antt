use Rattle.std.proofs.Common.{◌∙◌, ap, refl}
use Rattle.wordset.specs.Words.{Words, one, plus, all_words}
use Rattle.wordset.specs.Lanes.{words}
use Rattle.domain.specs.Facts.{Fact}
use Rattle.domain.specs.FactInCode.{fact_in_code}
use Rattle.facts.specs.PlaceInCode.{place_in_code}
use Rattle.domain.specs.Moves.{counted_up}
use Rattle.domain.specs.Offsets.{offsets_in}
use Rattle.transfer.proofs.ComesLemmas.{goes_on, all_reached}
use Rattle.facts.proofs.place.Place.count_own.Goals as goal

pub returns : goal.returns
returns g c =
    let pl = (place_in_code c.args.self.now) in
    let f : Fact = (fact_in_code c.args.fact.now) in
    let p : Words = (words c.args.targets.now) in
    rw c.requires.variable (goes_on pl p f all_words (one (plus c.args.at 1)) _
    (c.is_alive-comes.ensures p all_words c.has_some.ensures (all_reached refl)) c.go_to.ensures c.put_words_known.ensures (ap one c.increment.ensures)
    (c.set_offsets.ensures.fact ∙ ap (λ (x : Fact). record x { offsets = offsets_in c.counted.result }) c.copy_from.ensures.fact
    ∙ ap (λ (o : Words). record f { offsets = o }) (c.counted.ensures ∙ ap counted_up c.offsets.ensures)))
