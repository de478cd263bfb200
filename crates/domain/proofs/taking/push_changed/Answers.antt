use Rattle.std.proofs.Common.{◌∙◌, ◌++◌, ◌∷◌, [], sym, ap}
use Rattle.wordset.specs.Words.{Words, union}
use Rattle.wordset.specs.Lanes.{words}
use Rattle.domain.specs.TrackedCells.{TrackedCell}
use Rattle.domain.specs.CellsInCode.{cell_set_of, cell_sets_of}
use Rattle.domain.specs.Taken.{changed}
use Rattle.domain.proofs.NameLemmas.{has_cell_words}
use Rattle.domain.proofs.TakenLemmas.{stays_among, changes_among}
use Rattle.domain.proofs.taking.push_changed.Goals as goal

pub returns-then-not-contains : goal.returns-then-not-contains
returns-then-not-contains g c = c.push_copy.ensures ∙ ap (λ (x : TrackedCell). cell_sets_of c.args.cells.now ++ x ∷ [])
    (stays_among (words c.args.among.now) (changed c.args.change.now) (cell_sets_of c.args.others.now) (cell_set_of c.args.entry.now)
    (sym (c.contains.ensures ∙ sym (has_cell_words c.args.among.now c.args.entry.now.cell)) ∙ c.if-not-contains.true))

pub returns : goal.returns
returns g c = c.push.ensures ∙ ap (λ (x : TrackedCell). cell_sets_of c.args.cells.now ++ x ∷ [])
    (changes_among (words c.args.among.now) (changed c.args.change.now) (cell_sets_of c.args.others.now) (cell_set_of c.args.entry.now) (words c.add_changed.new.set)
    (sym (c.contains.ensures ∙ sym (has_cell_words c.args.among.now c.args.entry.now.cell)) ∙ c.if-not-contains.false)
    (c.add_changed.ensures ∙ ap (λ (s : Words). union s (changed c.args.change.now s)) c.put_set_of.ensures))
