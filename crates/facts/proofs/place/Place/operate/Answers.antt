use Rattle.std.proofs.Common.{◌∙◌, sym, ap}
use Rattle.wordset.specs.Words.{Words, one, all_words}
use Rattle.domain.specs.Facts.{Fact}
use Rattle.domain.specs.FactInCode.{fact_in_code, rules_of}
use Rattle.facts.specs.PlaceInCode.{place_in_code}
use Rattle.wordset.specs.Words.{images}
use Rattle.domain.specs.Locations.{Ac}
use Rattle.domain.specs.Adding.{with_name}
use Rattle.domain.specs.Facts.{OfEquations}
use Rattle.transfer.specs.Outcomes.{goes, ac_of, with_link}
use Rattle.transfer.specs.Operations.{all_operated1, operated, operated_under, ac_after, link_after}
use Rattle.transfer.proofs.ComesLemmas.{both_are, none_after}
use Rattle.facts.proofs.place.Place.operate.Goals as goal

pub returns-in-OfSums : goal.returns-in-OfSums
returns-in-OfSums g c =
    let pl = (place_in_code c.args.self.now) in
    let f : Fact = (fact_in_code c.args.fact.now) in
    let w = c.args.word in
    both_are
    (c.go_on.ensures f c.put_words_known.ensures ∙ ap (λ (x : Fact). goes pl all_words f all_words (one c.increment.result) x) c.put_operated_under.ensures
    ∙ ap (λ n. goes pl all_words f all_words (one n) (operated_under w f 0)) c.increment.ensures)
    (c.go_on-in-OfSums.ensures f c.put_words_known.ensures ∙ ap (λ (x : Fact). goes pl all_words f all_words (one c.increment-in-OfSums.result) x) c.put_operated_under-in-OfSums.ensures
    ∙ ap (λ n. goes pl all_words f all_words (one n) (operated_under w f 1)) c.increment-in-OfSums.ensures)
    ∙ ap (λ r. all_operated1 (rules_of r) pl c.args.at w f) (sym c.in-OfSums.is)

pub returns-in-OfEquations : goal.returns-in-OfEquations
returns-in-OfEquations g c =
    let pl = (place_in_code c.args.self.now) in
    let f : Fact = (fact_in_code c.args.fact.now) in
    let w = c.args.word in
    none_after
    (c.go_on-in-OfEquations.ensures f c.put_words_known.ensures ∙ ap (λ (x : Fact). goes pl all_words f all_words (one c.increment-in-OfEquations.result) x)
    (c.put_all_operated.ensures ∙ ap (λ (s : Words). with_link (images (link_after w) s f.link) (with_name Ac (images (ac_after w) s f.link) (operated OfEquations w f))) c.put_words_known.ensures)
    ∙ ap (λ n. goes pl all_words f all_words (one n) (with_link (images (link_after w) (ac_of pl f) f.link) (with_name Ac (images (ac_after w) (ac_of pl f) f.link) (operated OfEquations w f)))) c.increment-in-OfEquations.ensures)
    c.clear.ensures
    ∙ ap (λ r. all_operated1 (rules_of r) pl c.args.at w f) (sym c.in-OfEquations.is)
