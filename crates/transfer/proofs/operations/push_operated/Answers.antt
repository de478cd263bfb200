use Rattle.std.proofs.Common.{sym, ◌∙◌}
use Rattle.transfer.proofs.operations.push_operated.Goals as goal

pub returns-then-forgets_accumulator-clause-fact : goal.returns-then-forgets_accumulator-clause-fact
returns-then-forgets_accumulator-clause-fact g c = rw (sym c.forgets_accumulator.ensures ∙ c.if-forgets_accumulator.true) c.push_relations_free_of.ensures.fact

pub returns-clause-fact : goal.returns-clause-fact
returns-clause-fact g c = rw (sym c.forgets_accumulator.ensures ∙ c.if-forgets_accumulator.false) c.push_each_turned.ensures.fact
