use Rattle.domain.proofs.AddingLemmas.{given_is_so}
use Rattle.domain.proofs.KnowingLemmas.{said_is_so}
use Rattle.domain.proofs.laws.said_is_so.Goals as goal

pub returns : goal.returns
returns c = record { given = given_is_so; said = said_is_so }
