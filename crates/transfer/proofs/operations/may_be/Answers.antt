use Rattle.std.proofs.Common.{not, refl, ap}
use Rattle.transfer.proofs.operations.may_be.Goals as goal

pub returns-in-OfEquations : goal.returns-in-OfEquations
returns-in-OfEquations g c = rw c.in-OfEquations.is refl

pub returns-in-OfSums : goal.returns-in-OfSums
returns-in-OfSums g c = rw c.in-OfSums.is (ap (λ b. not b) c.is_void.ensures)
