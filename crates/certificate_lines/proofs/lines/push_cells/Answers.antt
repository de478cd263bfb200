use Rattle.std.proofs.Common.{◌∙◌, map, take}
use Rattle.domain.specs.CellsInCode.{cell_set_of}
use Rattle.certificate_lines.specs.Lines.{CellIs}
use Rattle.certificate_lines.proofs.lines.push_cells.Goals as goal

pub returns-in_err-claim-clause-front : goal.returns-in_err-claim-clause-front
returns-in_err-claim-clause-front g c =
    (map CellIs (map cell_set_of (take c.loop-cell.cell-index c.args.cells.now)), c.in_err-claim.ensures.same ∙ c.loop-cell.invariant)
