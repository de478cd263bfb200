use Rattle.facts.proofs.memory.put_chains_after_and.Goals as goal

pub returns-in-None : goal.returns-in-None
returns-in-None g c = rw c.in-None.is c.clear_chains.ensures.fact

pub returns-in-Some : goal.returns-in-Some
returns-in-Some g c = rw c.in-Some.is c.put_begun_longer.ensures.fact
