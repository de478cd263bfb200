use Rattle.processor.proofs.OneLemmas.{step_leads_to_one_state}
use Rattle.processor.proofs.laws.steps_lead_to_one_state.Goals as goal

pub returns : goal.returns
returns c = step_leads_to_one_state
