use Rattle.facts.proofs.ExactLemmas.{starts_are_exact}
use Rattle.facts.proofs.StartedLemmas.{start_fact_holds, starts_land}
use Rattle.facts.proofs.start_law.Goals as goal

pub returns : goal.returns
returns c = record { fact = start_fact_holds; landed = starts_land; exact = starts_are_exact }
