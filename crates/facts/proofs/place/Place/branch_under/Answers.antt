use Rattle.transfer.proofs.ComesLemmas.{both_are}
use Rattle.facts.proofs.place.Place.branch_under.Goals as goal

pub returns : goal.returns
returns g c = both_are c.branch_one_way.ensures c.branch_one_way-2.ensures
