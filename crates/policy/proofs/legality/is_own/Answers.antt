use Rattle.std.proofs.Common.{sym}
use Rattle.policy.proofs.CallLemmas.{last_call}
use Rattle.policy.proofs.legality.is_own.Goals as goal

pub returns-in-Some : goal.returns-in-Some
returns-in-Some c = rw (last_call c.args.calls.now c.in-Some.call.now (sym c.in-Some.ensures.value)).1 c.eq.ensures
