use Rattle.std.proofs.Common.{◌≡◌, ◌<◌, ◌≤◌, length, get_or, sym, ap, ◌∙◌, arith}
use Rattle.std.specs.Prelude.{slice_set}
use Rattle.wordset.specs.Words.{Words, meet}
use Rattle.wordset.specs.Lanes.{words}
use Rattle.domain.specs.TrackedCells.{TrackedCell, cell_at}
use Rattle.domain.specs.CellsInCode.{cell_sets_of, cell_set_of}
use Rattle.domain.proofs.UseLemmas.{set_in_use, place_in_use, count_in_use}
use Rattle.domain.proofs.cell_sets.CellSets.meet_at.Goals as goal

pub returns : goal.returns
returns g c =
    let lt : c.args.at < c.args.self.now.count = count_in_use cell_set_of c.args.self.now.entries c.args.self.now.count c.args.at c.requires in
    let le : c.args.self.now.count ≤ length c.args.self.now.entries = omega (arith, c.args.self.now.few, c.args.self.now.long) in
    let had : cell_at (cell_sets_of c.args.self.now) c.args.at ≡ cell_set_of (get_or c.args.self.now.entries c.args.at c.index-self-at.result) =
    place_in_use cell_set_of c.args.self.now.entries c.args.self.now.count c.args.at c.index-self-at.result _ lt le in
    let named : cell_at (cell_sets_of c.args.self.now) c.args.at ≡ cell_set_of (get_or c.args.self.now.entries c.args.at c.index-self-at-2.result) =
    place_in_use cell_set_of c.args.self.now.entries c.args.self.now.count c.args.at c.index-self-at-2.result _ lt le in
    set_in_use cell_set_of c.args.self.now.entries c.args.self.now.count c.args.at _ lt
    ∙ ap (λ (t : TrackedCell). slice_set (cell_sets_of c.args.self.now) c.args.at t)
    (ap (λ (s : Words). record { address = (get_or c.args.self.now.entries c.args.at c.index-self-at-2.result).cell; set = s }) c.meet.ensures
    ∙ ap (λ (t : TrackedCell). record { address = (get_or c.args.self.now.entries c.args.at c.index-self-at-2.result).cell; set = meet t.set (words c.args.set.now) }) (sym had)
    ∙ ap (λ (t : TrackedCell). record { address = t.address; set = meet (cell_at (cell_sets_of c.args.self.now) c.args.at).set (words c.args.set.now) }) (sym named))
