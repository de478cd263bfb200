use Rattle.std.proofs.Common.{◌<◌, ◌∙◌, ◌++◌, ◌∷◌, List, [], ap, subst, sym, arith}
use Rattle.wordset.specs.Words.{Words}
use Rattle.domain.specs.TrackedCells.{TrackedCell}
use Rattle.domain.specs.CellsInCode.{cell_sets_of}
use Rattle.certificate_lines.proofs.AddingLemmas.{row_there}
use Rattle.certificate_lines.proofs.packed.load.track.Goals as goal

pub returns-then-count-eq1-clause-cells : goal.returns-then-count-eq1-clause-cells
returns-then-count-eq1-clause-cells c =
    c.track_row.ensures.cells
    ∙ ap (λ (set : Words). (let cells : List TrackedCell = cell_sets_of c.args.fact.now.cells ++ record { address = c.args.cell; set = set } ∷ [] in cells))
    (sym (row_there c.args.runs.now 0 c.args.count c.index-runs-0.result c.if-count-eq1.true (omega (arith, c.requires.within)) c.index-runs-0.is
    (subst (λ n. n < 4096) c.index-last.ensures.same c.if-prove.false)))
