use Rattle.std.proofs.Common.{sym}
use Rattle.transfer.proofs.additions.put_chains_after_tad.Goals as goal

pub returns-in-None : goal.returns-in-None
returns-in-None g c = rw (sym c.in-None.ensures) c.clear_chains.ensures.fact

pub returns-in-Some : goal.returns-in-Some
returns-in-Some g c = rw (sym c.in-Some.ensures) c.lengthen_chains.ensures
