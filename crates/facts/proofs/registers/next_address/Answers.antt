use Rattle.transfer.proofs.OutcomeLemmas.{plus_two}
use Rattle.facts.proofs.registers.next_address.Goals as goal

pub returns-then-skip : goal.returns-then-skip
returns-then-skip c = rw c.if-skip.true (plus_two c.args.at c.increment.result c.increment-then-skip.result c.increment.ensures c.increment-then-skip.ensures)

pub returns-else-skip : goal.returns-else-skip
returns-else-skip c = rw c.if-skip.false c.increment-else-skip.ensures
