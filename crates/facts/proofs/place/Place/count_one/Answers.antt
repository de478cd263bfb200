use Rattle.std.proofs.Common.{◌≡◌, ◌∙◌, ap}
use Rattle.wordset.specs.Words.{Words, one, plus}
use Rattle.wordset.specs.Lanes.{words}
use Rattle.domain.specs.Facts.{Fact}
use Rattle.domain.specs.FactInCode.{fact_in_code}
use Rattle.facts.specs.PlaceInCode.{place_in_code}
use Rattle.wordset.specs.Words.{shifted, without, has_some}
use Rattle.domain.specs.Locations.{Cell}
use Rattle.domain.specs.Narrowing.{words_known}
use Rattle.transfer.proofs.OutcomeLemmas.{plus_two}
use Rattle.transfer.proofs.ComesLemmas.{goes_on, chosen_goes, counted_to, both_are, zero_there}
use Rattle.facts.proofs.place.Place.count_one.Goals as goal

pub returns : goal.returns
returns g c =
    let pl = (place_in_code c.args.self.now) in
    let f : Fact = (fact_in_code c.args.fact.now) in
    let p : Words = (words c.args.targets.now) in
    let y = c.args.cell in
    let old : words c.put_words_known-2.new.place ≡ words_known pl f (Cell y) = c.put_words_known-2.ensures in
    let more : words c.remove.new.self ≡ without 0 (shifted (words_known pl f (Cell y)) 1) =
    c.remove.ensures ∙ ap (without 0) (c.shift-more.ensures ∙ ap (λ (s : Words). shifted s c.increment-3.result) old ∙ ap (shifted (words_known pl f (Cell y))) c.increment-3.ensures) in
    rw c.requires.variable (both_are
    (chosen_goes pl p f (one 0) (one (plus c.args.at 2)) _
    (c.is_alive-comes.ensures p (one 0) c.has_some-reached.ensures zero_there) c.go_to_if.ensures
    (c.contains.ensures ∙ ap (words c.put_words_known-2.new.place) c.complement.ensures ∙ ap (λ (s : Words). s 4095) old)
    c.put_words_known.ensures (ap one (plus_two c.args.at c.increment.result c.increment-2.result c.increment.ensures c.increment-2.ensures))
    (counted_to pl y (one 0) f c.take_counted.ensures.fact c.one.ensures))
    (goes_on pl p f (without 0 (shifted (words_known pl f (Cell y)) 1)) (one (plus c.args.at 1)) _
    (c.is_alive-comes-2.ensures p (without 0 (shifted (words_known pl f (Cell y)) 1)) c.has_some-reached.ensures (c.has_some.ensures ∙ ap has_some more)) c.go_to.ensures
    c.put_words_known.ensures (ap one c.increment-4.ensures)
    (counted_to pl y (without 0 (shifted (words_known pl f (Cell y)) 1)) f c.take_counted-2.ensures.fact more)))
