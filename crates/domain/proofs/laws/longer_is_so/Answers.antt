use Rattle.domain.proofs.MoveLemmas.{longer_is_so}
use Rattle.domain.proofs.laws.longer_is_so.Goals as goal

pub returns : goal.returns
returns c = longer_is_so
