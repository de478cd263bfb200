use Rattle.domain.proofs.AddingLemmas.{adding_keeps, added_is_so, all_added_is_so}
use Rattle.domain.proofs.laws.added_is_so.Goals as goal

pub returns : goal.returns
returns c = record { keeps = adding_keeps; added = added_is_so; all = all_added_is_so }
