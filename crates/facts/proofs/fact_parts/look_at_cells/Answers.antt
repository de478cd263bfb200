use Rattle.std.proofs.Common.{map, ap, arith}
use Rattle.std.proofs.Math.ListN.{drop_of_length-le}
use Rattle.domain.specs.TrackedCells.{tracked}
use Rattle.domain.specs.CellsInCode.{cell_set_of}
use Rattle.facts.proofs.SplitLemmas.{entry_skipped}
use Rattle.facts.proofs.fact_parts.look_at_cells.Goals as goal

pub loop-entry-preserved : goal.loop-entry-preserved
loop-entry-preserved c = λ a past rest. c.loop-entry.invariant a past
    (entry_skipped cell_set_of a c.args.cells.now c.loop-entry.entry-index c.entry-item.result c.loop-entry-test.true c.entry-item.is
    (λ e. absurd (omega (arith, past, e, c.index-index.ensures.same, c.index-index.ensures.small))) rest)

pub returns : goal.returns
returns c = λ a past. c.loop-entry.invariant a past (ap (λ cs. tracked a (map cell_set_of cs)) (drop_of_length-le c.args.cells.now {i = c.loop-entry.entry-index} c.loop-entry-test.false))
