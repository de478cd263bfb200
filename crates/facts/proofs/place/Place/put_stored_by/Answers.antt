use Rattle.facts.proofs.place.Place.put_stored_by.Goals as goal

pub returns-in-OfSums : goal.returns-in-OfSums
returns-in-OfSums g c = rw c.in-OfSums.is c.put_stored.ensures

pub returns-in-OfEquations : goal.returns-in-OfEquations
returns-in-OfEquations g c = rw c.in-OfEquations.is c.put_copied.ensures
