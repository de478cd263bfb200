use Rattle.std.proofs.Common.{◌≡◌, ◌<◌, ◌≤◌, List, length, ap, ◌∙◌, arith}
use Rattle.domain.specs.TrackedCells.{TrackedCell}
use Rattle.domain.specs.CellsInCode.{cell_sets_of, words_in_cells}
use Rattle.domain.proofs.CellLemmas.{freed_on, freed_length, freed_end, all_freed}
use Rattle.domain.proofs.cell_sets.CellSets.remove.Goals as goal

pub free_at-requires : goal.free_at-requires
free_at-requires g c =
    let all : length (cell_sets_of c.loop-at.self) ≡ length (cell_sets_of c.args.self.now) = freed_length c.args.cell (cell_sets_of c.args.self.now) (cell_sets_of c.loop-at.self) c.loop-at.at c.loop-at.invariant in
    omega (arith, all, c.len-at-end.ensures.count, c.loop-at-test.true)

pub loop-at-preserved : goal.loop-at-preserved
loop-at-preserved g c =
    let inside : c.loop-at.at < length (cell_sets_of c.args.self.now) = omega (arith, c.len-at-end.ensures.count, c.loop-at-test.true) in
    freed_on c.args.cell (cell_sets_of c.args.self.now) (cell_sets_of c.loop-at.self) (cell_sets_of c.free_at.new.self) c.loop-at.at inside c.loop-at.invariant c.free_at.ensures

pub returns-clause-words : goal.returns-clause-words
returns-clause-words g c =
    let past : length (cell_sets_of c.args.self.now) ≤ c.loop-at.at = omega (arith, c.len-at-end.ensures.count, c.loop-at-test.false) in
    ap (λ (cs : List TrackedCell). words_in_cells cs) (freed_end c.args.cell (cell_sets_of c.args.self.now) (cell_sets_of c.loop-at.self) c.loop-at.at past c.loop-at.invariant)
    ∙ all_freed (cell_sets_of c.args.self.now) c.args.cell

pub returns-clause-few : goal.returns-clause-few
returns-clause-few g c =
    let all : length (cell_sets_of c.loop-at.self) ≡ length (cell_sets_of c.args.self.now) = freed_length c.args.cell (cell_sets_of c.args.self.now) (cell_sets_of c.loop-at.self) c.loop-at.at c.loop-at.invariant in
    omega (arith, all)
