use Rattle.std.proofs.Common.{List, ap, ◌∙◌}
use Rattle.wordset.specs.Words.{Words, meet}
use Rattle.wordset.specs.Lanes.{words}
use Rattle.domain.specs.TrackedCells.{TrackedCell, tracked}
use Rattle.domain.specs.CellsInCode.{cell_sets_of}
use Rattle.domain.proofs.CellLemmas.{all_tracked}
use Rattle.domain.proofs.cell_sets.CellSets.put_set_of.Goals as goal

pub returns : goal.returns
returns g c =
    c.keep_among.ensures ∙ ap (λ (cs : List TrackedCell). meet (words c.all.result) (tracked c.args.cell cs)) c.as_slice.ensures.cells
    ∙ ap (λ (s : Words). meet s (tracked c.args.cell (cell_sets_of c.args.self.now))) c.all.ensures ∙ all_tracked c.args.cell (cell_sets_of c.args.self.now)
