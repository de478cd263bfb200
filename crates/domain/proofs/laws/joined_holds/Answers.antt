use Rattle.domain.proofs.MoveLemmas.{joined_fact_holds, joined_keeps}
use Rattle.domain.proofs.laws.joined_holds.Goals as goal

pub returns : goal.returns
returns c = record { holds = joined_fact_holds; keeps = joined_keeps }
