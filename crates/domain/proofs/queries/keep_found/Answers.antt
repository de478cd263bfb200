use Rattle.domain.proofs.queries.keep_found.Goals as goal

pub returns-in-Accumulator : goal.returns-in-Accumulator
returns-in-Accumulator c = rw c.in-Accumulator.is c.meet.ensures
