use Rattle.std.proofs.Common.{◌≡◌, ◌∙◌, ap, refl}
use Rattle.wordset.specs.Words.{Words, one, plus, all_words}
use Rattle.wordset.specs.Lanes.{words}
use Rattle.domain.specs.Facts.{Fact}
use Rattle.domain.specs.FactInCode.{fact_in_code}
use Rattle.facts.specs.PlaceInCode.{place_in_code}
use Rattle.std.specs.Prelude.{Option, ℕ}
use Rattle.wordset.specs.Words.{ands, only}
use Rattle.domain.specs.Locations.{Ac}
use Rattle.domain.specs.Moves.{taking}
use Rattle.transfer.specs.References.{words_at}
use Rattle.transfer.specs.Outcomes.{ac_of, chains_after_and}
use Rattle.transfer.proofs.ComesLemmas.{goes_on, all_reached}
use Rattle.facts.proofs.place.Place.combine.Goals as goal

pub returns : goal.returns
returns g c =
    let pl = (place_in_code c.args.self.now) in
    let f : Fact = (fact_in_code c.args.fact.now) in
    let p : Words = (words c.args.targets.now) in
    let held : words c.put_words_known.new.place ≡ ac_of pl f = c.put_words_known.ensures in
    let read : words c.put_words_at.new.place ≡ words_at pl f p = c.put_words_at.ensures in
    goes_on pl p f all_words (one (plus c.args.at 1)) _
    (c.is_alive-comes.ensures p all_words c.has_some.ensures (all_reached refl)) c.go_to.ensures held (ap one c.increment.ensures)
    (c.put_chains_after_and.ensures
    ∙ ap (λ (x : Fact). record x { chains = chains_after_and pl.rules c.only.result f }) (c.take_for_accumulator.ensures
    ∙ ap (λ (s : Words). taking Ac s f) (c.ands.ensures ∙ ap (λ (s : Words). ands s (words c.put_words_at.new.place)) held ∙ ap (λ (s : Words). ands (ac_of pl f) s) read))
    ∙ ap (λ (o : Option ℕ). record (taking Ac (ands (ac_of pl f) (words_at pl f p)) f) { chains = chains_after_and pl.rules o f }) (c.only.ensures ∙ ap only read))
