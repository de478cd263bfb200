use Rattle.peripherals.proofs.OneLemmas.{one_world}
use Rattle.peripherals.proofs.laws.events_lead_to_one_world.Goals as goal

pub returns : goal.returns
returns c = one_world
