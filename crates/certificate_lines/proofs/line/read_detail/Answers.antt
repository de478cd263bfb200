use Rattle.certificate_lines.proofs.line.read_detail.Goals as goal

pub returns-in-One-clause-within : goal.returns-in-One-clause-within
returns-in-One-clause-within c = c.read_equation.ensures.within _

pub returns-in-Two-clause-within : goal.returns-in-Two-clause-within
returns-in-Two-clause-within c = c.read_equation-in-Two.ensures.within _

pub returns-in-115-clause-within : goal.returns-in-115-clause-within
returns-in-115-clause-within c = c.read_sum.ensures.within _

pub returns-in_default-clause-within : goal.returns-in_default-clause-within
returns-in_default-clause-within c = c.read_chain.ensures.within _
