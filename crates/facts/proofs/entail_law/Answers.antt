use Rattle.facts.proofs.EntailedLemmas.{entailed_facts_hold}
use Rattle.facts.proofs.entail_law.Goals as goal

pub returns : goal.returns
returns c = entailed_facts_hold
