use Rattle.domain.proofs.NarrowingLemmas.{narrowed_is_so, narrowed_holds, asked_holds, known_is_so}
use Rattle.domain.proofs.laws.narrowed_holds.Goals as goal

pub returns : goal.returns
returns c = record { is_so = narrowed_is_so; holds = narrowed_holds; asked = asked_holds; known = known_is_so }
