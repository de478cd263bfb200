use Rattle.std.proofs.Common.{arith}
use Rattle.domain.specs.CellsInCode.{cell_set_of}
use Rattle.facts.proofs.ShowingLemmas.{entry_at}
use Rattle.facts.proofs.known_fact.shows_within_at.Goals as goal

pub returns : goal.returns
returns c = λ t v lt h. (c.is_within_of.ensures t).1 v lt
    (entry_at cell_set_of c.args.cell c.args.cells.now c.args.at c.index-cells-at.result (omega (arith, c.if-at-cells.false)) c.index-cells-at.is (c.is_within_of.ensures t).0 v h)
