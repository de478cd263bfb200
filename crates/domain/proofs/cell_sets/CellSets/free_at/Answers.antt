use Rattle.std.proofs.Common.{◌<◌, sym, ap, ◌∙◌}
use Rattle.std.specs.Prelude.{slice_set}
use Rattle.std.proofs.lemmas.Bool.{eqb-true}
use Rattle.domain.specs.TrackedCells.{TrackedCell, cell_at}
use Rattle.domain.specs.CellsInCode.{cell_sets_of, cell_set_of}
use Rattle.domain.proofs.UseLemmas.{set_in_use, count_in_use}
use Rattle.domain.proofs.CellLemmas.{freed_is}
use Rattle.domain.proofs.cell_sets.CellSets.free_at.Goals as goal

pub returns-then-eq : goal.returns-then-eq
returns-then-eq g c =
    let lt : c.args.at < c.args.self.now.count = count_in_use cell_set_of c.args.self.now.entries c.args.self.now.count c.args.at c.requires in
    set_in_use cell_set_of c.args.self.now.entries c.args.self.now.count c.args.at _ lt
    ∙ ap (λ (t : TrackedCell). slice_set (cell_sets_of c.args.self.now) c.args.at t)
    (freed_is (cell_at (cell_sets_of c.args.self.now) c.args.at) c.args.cell _ (sym c.address.ensures ∙ eqb-true c.address.result c.args.cell (sym c.if-eq.ensures)) c.all.ensures)
