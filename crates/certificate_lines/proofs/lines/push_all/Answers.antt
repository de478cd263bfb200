use Rattle.std.proofs.Common.{[], ◌∷◌, ◌++◌, ◌∙◌, List, map, ap}
use Rattle.domain.specs.TrackedCells.{TrackedCell}
use Rattle.domain.specs.Chains.{Chain}
use Rattle.domain.specs.Facts.{Relation}
use Rattle.certificate_lines.specs.Lines.{CellIs, SumIs, ChainIs}
use Rattle.certificate_lines.proofs.SumDetailLemmas.{all_pushed}
use Rattle.certificate_lines.specs.Packed.{claimed_line}
use Rattle.certificate_lines.specs.Packed.{said_lines}
use Rattle.certificate_lines.proofs.MakerLemmas.{begins_both, on_ok}
use Rattle.certificate_lines.proofs.lines.push_all.Goals as goal

pub returns-in_err-push_cells-clause-front : goal.returns-in_err-push_cells-clause-front
returns-in_err-push_cells-clause-front g c =
    begins_both (said_lines c.args.lines.now) (said_lines c.claim.new.self) (said_lines c.push_cells.new.lines)
    (claimed_line c.args.head.now ∷ [], c.in_ok-claim.ensures.added) c.push_cells.ensures.front

pub returns-clause-front : goal.returns-clause-front
returns-clause-front g c =
    begins_both (said_lines c.args.lines.now) (said_lines c.push_relations.new.lines) (said_lines c.push_chains.new.lines)
    (begins_both (said_lines c.args.lines.now) (said_lines c.push_cells.new.lines) (said_lines c.push_relations.new.lines)
    (begins_both (said_lines c.args.lines.now) (said_lines c.claim.new.self) (said_lines c.push_cells.new.lines)
    (claimed_line c.args.head.now ∷ [], c.in_ok-claim.ensures.added) c.push_cells.ensures.front) c.push_relations.ensures.front) c.push_chains.ensures.front

pub returns-in_err-push_relations-clause-front : goal.returns-in_err-push_relations-clause-front
returns-in_err-push_relations-clause-front g c =
    begins_both (said_lines c.args.lines.now) (said_lines c.push_cells.new.lines) (said_lines c.push_relations.new.lines)
    (begins_both (said_lines c.args.lines.now) (said_lines c.claim.new.self) (said_lines c.push_cells.new.lines)
    (claimed_line c.args.head.now ∷ [], c.in_ok-claim.ensures.added) c.push_cells.ensures.front) c.push_relations.ensures.front

pub returns-clause-whole : goal.returns-clause-whole
returns-clause-whole g c =
    on_ok c.push_chains.result _ _ (λ e.
    all_pushed (said_lines c.args.lines.now) (said_lines c.claim.new.self) (said_lines c.push_cells.new.lines) (said_lines c.push_relations.new.lines) (said_lines c.push_chains.new.lines)
    (claimed_line c.args.head.now) _ _ _ c.in_ok-claim.ensures.added
    (c.in_ok-push_cells.ensures.whole ∙ ap (λ (x : List TrackedCell). said_lines c.claim.new.self ++ map CellIs x) c.told_cells.ensures)
    (c.in_ok-push_relations.ensures.whole ∙ ap (λ (x : List Relation). said_lines c.push_cells.new.lines ++ map SumIs x) (c.as_slice.ensures.relations ∙ c.relations.ensures))
    (e ∙ ap (λ (x : List Chain). said_lines c.push_relations.new.lines ++ map ChainIs x) c.chains.ensures.chains)) c.push_chains.ensures.whole
