use Rattle.std.proofs.Common.{ap, sym, ◌∙◌}
use Rattle.wordset.specs.Words.{Words}
use Rattle.domain.specs.Locations.{Location, Cell}
use Rattle.domain.specs.TrackedCells.{tracked}
use Rattle.domain.specs.CellsInCode.{cell_sets_of}
use Rattle.facts.proofs.SplitLemmas.{told_small}
use Rattle.facts.proofs.fact_parts.LinkPartFactPart.has_words.Goals as goal

pub returns-clause-beyond : goal.returns-clause-beyond
returns-clause-beyond c = λ a past. sym (ap (λ (s : Location → Words). s (Cell a)) c.cells.ensures) ∙ ap (tracked a) (sym c.as_slice.ensures.cells) ∙ c.look_at_cells.ensures a past

pub returns-clause-words : goal.returns-clause-words
returns-clause-words c = told_small _ (cell_sets_of c.args.self.now.part.cells)
