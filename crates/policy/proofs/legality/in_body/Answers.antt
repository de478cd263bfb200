use Rattle.std.proofs.Common.{sym}
use Rattle.policy.proofs.CallLemmas.{last_call}
use Rattle.policy.proofs.legality.in_body.Goals as goal

pub returns-in-Some : goal.returns-in-Some
returns-in-Some g c = rw (last_call c.args.calls.now c.in-Some.call.now (sym c.in-Some.ensures.value)).1 c.in_body.ensures
