use Rattle.domain.specs.CellsInCode.{cell_set_of}
use Rattle.facts.proofs.ShowingLemmas.{entry_here, entry_passed}
use Rattle.facts.proofs.known_fact.shows_within.Goals as goal

pub returns-then-is_within_of : goal.returns-then-is_within_of
returns-then-is_within_of c = λ t v lt h. (c.is_within_of.ensures c.if-is_within_of.true).1 v lt
    (entry_here cell_set_of c.args.cell c.args.cells.now c.loop-entry.entry-index c.entry-item.result c.loop-entry-test.true c.entry-item.is (c.is_within_of.ensures c.if-is_within_of.true).0 v (c.loop-entry.invariant v h))

pub loop-entry-preserved : goal.loop-entry-preserved
loop-entry-preserved c = λ v h. entry_passed cell_set_of c.args.cell c.args.cells.now c.loop-entry.entry-index c.entry-item.result c.loop-entry-test.true c.entry-item.is v (c.loop-entry.invariant v h)
