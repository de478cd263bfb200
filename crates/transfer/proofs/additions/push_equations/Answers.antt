use Rattle.std.proofs.Common.{None}
use Rattle.transfer.proofs.additions.push_equations.Goals as goal

pub returns-in-None-clause-fact : goal.returns-in-None-clause-fact
returns-in-None-clause-fact g c e = rw c.in-None.is (c.push_equations_by.ensures.fact c.args.known.now e)

pub returns-in-None-known-clause-fact : goal.returns-in-None-known-clause-fact
returns-in-None-known-clause-fact g c e = rw (c.in-Some.is, c.in-None-known.is) (c.push_equations_by-in-None-known.ensures.fact None e)

pub returns-in-Some-known-clause-fact : goal.returns-in-Some-known-clause-fact
returns-in-Some-known-clause-fact g c e = rw (c.in-Some.is, c.in-Some-known.is) (c.push_equation_of.ensures.fact c.args.word.now e)
