use Rattle.domain.proofs.NarrowingLemmas.{void_never_holds}
use Rattle.domain.proofs.laws.void_never_holds.Goals as goal

pub returns : goal.returns
returns c = void_never_holds
