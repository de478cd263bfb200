use Rattle.std.proofs.Common.{map, ap}
use Rattle.std.proofs.Math.ListN.{drop_of_length-le}
use Rattle.domain.specs.TrackedCells.{tracked}
use Rattle.domain.specs.CellsInCode.{cell_set_of}
use Rattle.facts.proofs.SplitLemmas.{entry_skipped, with_more, more_not, more_other}
use Rattle.facts.proofs.landing.add_cells.Goals as goal

pub loop-entry-preserved : goal.loop-entry-preserved
loop-entry-preserved c = (
  λ a h. with_more _ _ _ a c.insert.ensures (c.loop-entry.invariant.0 a h),
  λ a out rest. c.loop-entry.invariant.1 a (more_not _ _ _ a c.insert.ensures out)
      (entry_skipped cell_set_of a c.args.cells.now c.loop-entry.entry-index c.entry-item.result c.loop-entry-test.true c.entry-item.is (more_other _ _ _ a c.insert.ensures out) rest),
)

pub returns-clause-told : goal.returns-clause-told
returns-clause-told c = λ a out. c.loop-entry.invariant.1 a out (ap (λ cs. tracked a (map cell_set_of cs)) (drop_of_length-le c.args.cells.now {i = c.loop-entry.entry-index} c.loop-entry-test.false))
