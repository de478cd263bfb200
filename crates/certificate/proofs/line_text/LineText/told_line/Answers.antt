use Rattle.std.specs.Prelude.{nat_lt}
use Rattle.std.proofs.lemmas.Bool.{and_parts, ltb-true}
use Rattle.certificate_lines.specs.LineOf.{most_offsets}
use Rattle.certificate.proofs.line_text.LineText.told_line.Goals as goal

pub routine-requires-clause-rank : goal.routine-requires-clause-rank
routine-requires-clause-rank c =
    let form = rw c.in-Routine.is at c.requires.form in
    ltb-true c.in-Routine.routine.rank 64 (and_parts (nat_lt c.in-Routine.routine.entry 4096) _ form.0).1

pub told_exit-requires-clause-offset : goal.told_exit-requires-clause-offset
told_exit-requires-clause-offset c =
    let form = rw c.in-Exit.is at c.requires.form in
    ltb-true c.in-Exit.exit.offset (most_offsets c.args.version) (and_parts (nat_lt c.in-Exit.exit.offset (most_offsets c.args.version)) _ (and_parts (nat_lt c.in-Exit.exit.entry 4096) _ form.0).1).0

pub returns-in-Routine : goal.returns-in-Routine
returns-in-Routine c = rw c.in-Routine.is c.routine.ensures

pub returns-in-Fact : goal.returns-in-Fact
returns-in-Fact c = rw c.in-Fact.is (c.told_fact.ensures c.args.lent.now.steps.now)

pub returns-in-Exit : goal.returns-in-Exit
returns-in-Exit c = rw c.in-Exit.is (c.told_exit.ensures c.args.lent.now.steps.now)

pub returns-in-Cell : goal.returns-in-Cell
returns-in-Cell c = rw c.in-Cell.is c.cell.ensures

pub returns-in-Sum : goal.returns-in-Sum
returns-in-Sum c = rw c.in-Sum.is c.relation.ensures

pub returns-in-Chain : goal.returns-in-Chain
returns-in-Chain c = rw c.in-Chain.is c.chain.ensures

pub returns-in-End : goal.returns-in-End
returns-in-End c = rw c.in-End.is c.text.ensures
