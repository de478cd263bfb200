use Rattle.std.proofs.Common.{List, ap, ◌∙◌}
use Rattle.wordset.specs.Lanes.{words}
use Rattle.domain.specs.TrackedCells.{TrackedCell}
use Rattle.domain.specs.CellsInCode.{cell_sets_of, words_in_cells}
use Rattle.domain.proofs.CellLemmas.{entry_met, entry_pushed}
use Rattle.domain.proofs.cell_sets.CellSets.meet.Goals as goal

pub returns-in-Some-clause-words : goal.returns-in-Some-clause-words
returns-in-Some-clause-words g c =
    ap (λ (cs : List TrackedCell). words_in_cells cs) c.meet_at.ensures ∙ entry_met (cell_sets_of c.args.self.now) c.in-Some.at c.args.cell (words c.args.set.now) c.in-Some.ensures

pub returns-in-None-clause-words : goal.returns-in-None-clause-words
returns-in-None-clause-words g c =
    ap (λ (cs : List TrackedCell). words_in_cells cs) c.push.ensures ∙ entry_pushed (cell_sets_of c.args.self.now) c.args.cell (words c.args.set.now)
