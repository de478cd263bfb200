use Rattle.declaration.specs.DeclarationInCode.{meaning}
use Rattle.analyser.proofs.DraftLemmas.{one_more}
use Rattle.proposer.specs.Widths.{KeepsCell}
use Rattle.proposer.proofs.width.keeps_cells.Goals as goal

pub loop-index-preserved : goal.loop-index-preserved
loop-index-preserved g c =
    one_more (KeepsCell (meaning c.args.given.now) (meaning c.args.more.now)) c.loop-index.index c.from_index.result c.loop-index.invariant c.from_index.ensures
    (c.keeps_cell.ensures c.if-not-keeps_cell.false)
