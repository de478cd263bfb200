use Rattle.std.proofs.Common.{◌∙◌, ap}
use Rattle.wordset.specs.Words.{one, all_words}
use Rattle.domain.specs.FactInCode.{fact_in_code}
use Rattle.facts.specs.PlaceInCode.{place_in_code}
use Rattle.transfer.specs.Outcomes.{goes}
use Rattle.transfer.proofs.OutcomeLemmas.{plus_two}
use Rattle.transfer.proofs.ComesLemmas.{both_are}
use Rattle.facts.proofs.place.Place.test_flag.Goals as goal

pub returns : goal.returns
returns g c = both_are
    (c.leave.ensures ∙ ap (λ n. goes (place_in_code c.args.self.now) all_words (fact_in_code c.args.fact.now) all_words (one n) (fact_in_code c.args.fact.now)) c.increment.ensures)
    (c.leave-2.ensures ∙ ap (λ n. goes (place_in_code c.args.self.now) all_words (fact_in_code c.args.fact.now) all_words (one n) (fact_in_code c.args.fact.now)) (plus_two c.args.at c.increment-2.result c.increment-3.result c.increment-2.ensures c.increment-3.ensures))
