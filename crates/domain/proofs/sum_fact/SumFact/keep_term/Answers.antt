use Rattle.domain.proofs.sum_fact.SumFact.keep_term.Goals as goal

pub returns-in-Holding-clause-fact : goal.returns-in-Holding-clause-fact
returns-in-Holding-clause-fact g c = rw c.in-Holding.is c.keep_name.ensures.fact

pub returns-in-Behind-clause-fact : goal.returns-in-Behind-clause-fact
returns-in-Behind-clause-fact g c = rw c.in-Behind.is c.keep_pointer.ensures.fact
