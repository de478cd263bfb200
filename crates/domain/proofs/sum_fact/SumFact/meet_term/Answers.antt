use Rattle.domain.proofs.sum_fact.SumFact.meet_term.Goals as goal

pub returns-in-Holding-clause-fact : goal.returns-in-Holding-clause-fact
returns-in-Holding-clause-fact g c = rw c.in-Holding.is c.meet_name.ensures.fact
