use Rattle.std.proofs.Common.{List, ap, ◌∙◌}
use Rattle.wordset.specs.Words.{Words}
use Rattle.domain.specs.Locations.{Location, Cell}
use Rattle.domain.specs.TrackedCells.{TrackedCell, tracked}
use Rattle.facts.proofs.known_fact.SumFactKnownFact.has_within_at.Goals as goal

pub returns : goal.returns
returns g c = λ t v lt h. c.shows_within_at.ensures t v lt
    (ap (λ (cs : List TrackedCell). tracked c.args.cell cs v) c.as_slice.ensures.cells ∙ ap (λ (s : Location → Words). s (Cell c.args.cell) v) c.cells.ensures ∙ h)
