use Rattle.domain.proofs.sum_fact.SumFact.take_joined.Goals as goal

pub returns-in-OfSums : goal.returns-in-OfSums
returns-in-OfSums g c = rw c.in-OfSums.is c.take_joined_sums.ensures

pub returns-in-OfEquations : goal.returns-in-OfEquations
returns-in-OfEquations g c = rw c.in-OfEquations.is c.take_joined_equations.ensures
