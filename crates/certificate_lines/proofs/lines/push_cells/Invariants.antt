use Rattle.std.proofs.Common.{◌≡◌, ◌++◌, map, take}
use Rattle.domain.specs.CellsInCode.{cell_set_of}
use Rattle.certificate_lines.specs.Packed.{said_lines}
use Rattle.certificate_lines.specs.Lines.{CellIs}
use Rattle.certificate_lines.proofs.lines.push_cells.Given as goal

abbrev pub invariant-loop-cell : goal.invariant-loop-cell
invariant-loop-cell g l = said_lines l.lines ≡ said_lines l.fn.lines ++ map CellIs (map cell_set_of (take l.cell-index l.cells))
