use Rattle.std.proofs.Common.{◌∙◌, sym, ap, refl}
use Rattle.wordset.specs.Words.{Words, all_words}
use Rattle.wordset.specs.Lanes.{words}
use Rattle.domain.specs.Facts.{Fact}
use Rattle.domain.specs.FactInCode.{fact_in_code}
use Rattle.facts.specs.PlaceInCode.{place_in_code}
use Rattle.transfer.specs.Outcomes.{Goes, Returns, given, alive}
use Rattle.transfer.proofs.ComesLemmas.{comes_by, all_reached}
use Rattle.facts.proofs.place.Place.jump.Goals as goal

pub returns-then-is_returning : goal.returns-then-is_returning
returns-then-is_returning g c =
    let pl = (place_in_code c.args.self.now) in
    let f : Fact = (fact_in_code c.args.fact.now) in
    let p : Words = (words c.args.targets.now) in
    rw (sym c.is_returning.ensures ∙ c.if-is_returning.true) (c.go_back.ensures ∙ ap (λ b. given b (Returns (fact_in_code c.copy_from.new.self)))
    (comes_by pl p f all_words f (c.is_alive-comes.ensures p all_words c.has_some.ensures (all_reached refl)) c.put_words_known.ensures c.copy_from.ensures.fact)
    ∙ ap (λ (x : Fact). given (alive pl p f all_words f) (Returns x)) c.copy_from.ensures.fact)

pub returns : goal.returns
returns g c =
    let pl = (place_in_code c.args.self.now) in
    let f : Fact = (fact_in_code c.args.fact.now) in
    let p : Words = (words c.args.targets.now) in
    rw (sym c.is_returning.ensures ∙ c.if-is_returning.false) (c.go_to_one_of.ensures ∙ ap (λ b. given b (Goes p (fact_in_code c.copy_from.new.self)))
    (comes_by pl p f all_words f (c.is_alive-comes.ensures p all_words c.has_some.ensures (all_reached refl)) c.put_words_known.ensures c.copy_from.ensures.fact)
    ∙ ap (λ (x : Fact). given (alive pl p f all_words f) (Goes p x)) c.copy_from.ensures.fact)
