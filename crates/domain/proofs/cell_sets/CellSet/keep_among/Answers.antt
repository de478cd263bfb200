use Rattle.std.proofs.Common.{refl}
use Rattle.domain.specs.TrackedCells.{tracked}
use Rattle.domain.specs.CellsInCode.{cell_set_of}
use Rattle.domain.proofs.RelationLemmas.{all_kept}
use Rattle.domain.proofs.cell_sets.CellSet.keep_among.Goals as goal

pub returns : goal.returns
returns c = all_kept c.args.entries.now c.loop-entry.entry-index cell_set_of (λ cs. tracked c.args.cell cs) (λ v. refl) c.loop-entry.place c.args.place.now c.loop-entry-test.false c.loop-entry.invariant
