use Rattle.std.proofs.Common.{◌∙◌}
use Rattle.domain.specs.CellsInCode.{cell_sets_of, words_in_cells}
use Rattle.domain.proofs.CellLemmas.{replaced}
use Rattle.domain.proofs.cell_sets.CellSets.replace.Goals as goal

pub returns-clause-words : goal.returns-clause-words
returns-clause-words g c =
    c.meet.ensures.words ∙ replaced (words_in_cells (cell_sets_of c.args.self.now)) (words_in_cells (cell_sets_of c.remove.new.self)) c.args.cell c.args.set.now c.remove.ensures.words
