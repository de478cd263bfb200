use Rattle.command_parts.proofs.InputLemmas.{has_events, events_fault_is}
use Rattle.command_parts.proofs.inputs.events_from.Goals as goal

pub returns-in-Ok-clause-spells : goal.returns-in-Ok-clause-spells
returns-in-Ok-clause-spells g c =
    has_events (g.R.ByteSource.remaining c.args.source.now) c.in_ok-text.text.items c.in-Ok.list.items c.in_ok-text.ensures.text (rw c.deref.ensures.value at c.in-Ok.ensures.found)

pub returns-clause-faults : goal.returns-clause-faults
returns-clause-faults g c =
    rw c.from.ensures (events_fault_is c.in-Err.fault _ (g.R.ByteSource.remaining c.args.source.now) _ c.in_ok-text.text.items c.in_ok-text.ensures.taken c.in_ok-text.ensures.text (rw c.deref.ensures.value at c.in-Err.ensures.refused))
