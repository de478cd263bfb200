use Rattle.std.proofs.Common.{refl}
use Rattle.transfer.proofs.additions.add_brought.Goals as goal

pub returns-in-None-clause-fact : goal.returns-in-None-clause-fact
returns-in-None-clause-fact g c = rw c.in-None.is refl

pub returns-in-Some-clause-fact : goal.returns-in-Some-clause-fact
returns-in-Some-clause-fact g c = rw c.in-Some.is c.add_brought_of.ensures.fact
