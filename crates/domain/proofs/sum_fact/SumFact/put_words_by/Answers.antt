use Rattle.domain.proofs.sum_fact.SumFact.put_words_by.Goals as goal

pub returns-in-OfSums : goal.returns-in-OfSums
returns-in-OfSums g c = rw c.in-OfSums.is c.put_set_of.ensures

pub returns-in-OfEquations : goal.returns-in-OfEquations
returns-in-OfEquations g c = rw c.in-OfEquations.is c.put_narrowed.ensures
