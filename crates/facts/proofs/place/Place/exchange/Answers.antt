use Rattle.std.proofs.Common.{◌∙◌, sym, ap, refl}
use Rattle.wordset.specs.Words.{Words, one, plus, all_words, ors}
use Rattle.wordset.specs.Lanes.{words}
use Rattle.domain.specs.FactInCode.{fact_in_code}
use Rattle.facts.specs.PlaceInCode.{place_in_code}
use Rattle.instruct.specs.Operates.{Mql, Mqa, Swp, Cam, ClaMqa, ClaSwp}
use Rattle.domain.specs.Locations.{Ac}
use Rattle.domain.specs.Moves.{taking}
use Rattle.transfer.specs.Outcomes.{ac_of, goes, with_mq}
use Rattle.facts.proofs.DeviceLemmas.{exchange_is}
use Rattle.facts.proofs.place.Place.exchange.Goals as goal

pub returns-in-3857 : goal.returns-in-3857
returns-in-3857 g c = λ o is. exchange_is (place_in_code c.args.self.now) c.args.at c.args.word 3857 Mql o (fact_in_code c.args.fact.now) (sym c.value.ensures.same ∙ c.in-3857.is) refl is
    (c.take.ensures ∙ ap (λ (x : Words). goes (place_in_code c.args.self.now) all_words (fact_in_code c.args.fact.now) all_words (one (plus c.args.at 1)) (with_mq x (taking Ac (words c.one-zero.result) (fact_in_code c.args.fact.now)))) c.put_words_known.ensures
    ∙ ap (λ (x : Words). goes (place_in_code c.args.self.now) all_words (fact_in_code c.args.fact.now) all_words (one (plus c.args.at 1)) (with_mq (ac_of (place_in_code c.args.self.now) (fact_in_code c.args.fact.now)) (taking Ac x (fact_in_code c.args.fact.now)))) c.one-zero.ensures)

pub returns-in-3905 : goal.returns-in-3905
returns-in-3905 g c = λ o is. exchange_is (place_in_code c.args.self.now) c.args.at c.args.word 3905 Mqa o (fact_in_code c.args.fact.now) (sym c.value.ensures.same ∙ c.in-3905.is) refl is
    (c.take-in-3905.ensures ∙ ap (λ (x : Words). goes (place_in_code c.args.self.now) all_words (fact_in_code c.args.fact.now) all_words (one (plus c.args.at 1)) (with_mq x (taking Ac (words c.ors.result) (fact_in_code c.args.fact.now)))) c.mq.ensures
    ∙ ap (λ (x : Words). goes (place_in_code c.args.self.now) all_words (fact_in_code c.args.fact.now) all_words (one (plus c.args.at 1)) (taking Ac x (fact_in_code c.args.fact.now))) (c.ors.ensures ∙ ap (λ (x : Words). ors x (words c.mq.result.now)) c.put_words_known.ensures ∙ ap (λ (x : Words). ors (ac_of (place_in_code c.args.self.now) (fact_in_code c.args.fact.now)) x) c.mq.ensures))

pub returns-in-3921 : goal.returns-in-3921
returns-in-3921 g c = λ o is. exchange_is (place_in_code c.args.self.now) c.args.at c.args.word 3921 Swp o (fact_in_code c.args.fact.now) (sym c.value.ensures.same ∙ c.in-3921.is) refl is
    (c.take-in-3921.ensures ∙ ap (λ (x : Words). goes (place_in_code c.args.self.now) all_words (fact_in_code c.args.fact.now) all_words (one (plus c.args.at 1)) (with_mq x (taking Ac (words c.mq.result.now) (fact_in_code c.args.fact.now)))) c.put_words_known.ensures
    ∙ ap (λ (x : Words). goes (place_in_code c.args.self.now) all_words (fact_in_code c.args.fact.now) all_words (one (plus c.args.at 1)) (with_mq (ac_of (place_in_code c.args.self.now) (fact_in_code c.args.fact.now)) (taking Ac x (fact_in_code c.args.fact.now)))) c.mq.ensures)

pub returns-in-3985 : goal.returns-in-3985
returns-in-3985 g c = λ o is. exchange_is (place_in_code c.args.self.now) c.args.at c.args.word 3985 Cam o (fact_in_code c.args.fact.now) (sym c.value.ensures.same ∙ c.in-3985.is) refl is
    (c.take-in-3985.ensures ∙ ap (λ (x : Words). goes (place_in_code c.args.self.now) all_words (fact_in_code c.args.fact.now) all_words (one (plus c.args.at 1)) (with_mq x (taking Ac x (fact_in_code c.args.fact.now)))) c.one-zero.ensures)

pub returns-in-4033 : goal.returns-in-4033
returns-in-4033 g c = λ o is. exchange_is (place_in_code c.args.self.now) c.args.at c.args.word 4033 ClaMqa o (fact_in_code c.args.fact.now) (sym c.value.ensures.same ∙ c.in-4033.is) refl is
    (c.take-in-4033.ensures ∙ ap (λ (x : Words). goes (place_in_code c.args.self.now) all_words (fact_in_code c.args.fact.now) all_words (one (plus c.args.at 1)) (with_mq x (taking Ac x (fact_in_code c.args.fact.now)))) c.mq.ensures)

pub returns-in-4049 : goal.returns-in-4049
returns-in-4049 g c = λ o is. exchange_is (place_in_code c.args.self.now) c.args.at c.args.word 4049 ClaSwp o (fact_in_code c.args.fact.now) (sym c.value.ensures.same ∙ c.in-4049.is) refl is
    (c.take-in-4049.ensures ∙ ap (λ (x : Words). goes (place_in_code c.args.self.now) all_words (fact_in_code c.args.fact.now) all_words (one (plus c.args.at 1)) (with_mq x (taking Ac (words c.mq.result.now) (fact_in_code c.args.fact.now)))) c.one-zero.ensures
    ∙ ap (λ (x : Words). goes (place_in_code c.args.self.now) all_words (fact_in_code c.args.fact.now) all_words (one (plus c.args.at 1)) (with_mq (one 0) (taking Ac x (fact_in_code c.args.fact.now)))) c.mq.ensures)
