use Rattle.peripherals.proofs.IdleLemmas.{idle_events, unsupported_steps}
use Rattle.peripherals.proofs.laws.idle_events_change_nothing.Goals as goal

pub returns : goal.returns
returns c = record { idle = idle_events; unsupported = unsupported_steps }
