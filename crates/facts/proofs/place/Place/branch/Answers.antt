use Rattle.std.proofs.Common.{true, false}
use Rattle.domain.specs.FactInCode.{fact_in_code}
use Rattle.transfer.specs.Operations.{operated2}
use Rattle.facts.specs.PlaceInCode.{place_in_code}
use Rattle.transfer.specs.OutcomesInCode.{outcome_in}
use Rattle.transfer.proofs.ComesLemmas.{two_pairs}
use Rattle.facts.proofs.place.Place.branch.Goals as goal

pub returns : goal.returns
returns g c =
    let each = operated2 (place_in_code c.args.self.now) c.args.at c.args.word (fact_in_code c.args.fact.now) in
    two_pairs (outcome_in c.branch_under.new.skipping) (outcome_in c.branch_under.new.staying)
    (outcome_in c.branch_under-2.new.skipping) (outcome_in c.branch_under-2.new.staying)
    (each 0 true) (each 0 false) (each 1 true) (each 1 false) c.branch_under.ensures c.branch_under-2.ensures
