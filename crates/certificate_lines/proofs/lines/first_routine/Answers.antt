use Rattle.certificate_lines.proofs.lines.first_routine.Goals as goal

pub returns-clause-there : goal.returns-clause-there
returns-clause-there g c = rw c.line.ensures.there c.routine_of.ensures.there

pub returns-clause-says : goal.returns-clause-says
returns-clause-says g c = rw c.line.ensures.there c.routine_of.ensures.says
