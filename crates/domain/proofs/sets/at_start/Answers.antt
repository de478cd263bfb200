use Rattle.std.proofs.Common.{ap}
use Rattle.std.proofs.Math.Path.{fun_ext}
use Rattle.wordset.proofs.IterLemmas.{none_gathered, image_gathered, all_gathered}
use Rattle.domain.proofs.sets.at_start.Goals as goal

pub loop-cell-init : goal.loop-cell-init
loop-cell-init c = none_gathered c.iter-cell-items.ensures c.into_iter-cell-iterator.ensures.into_iter_gives (λ v. ap (λ t. t v) c.empty-found.ensures)

pub loop-cell-preserved : goal.loop-cell-preserved
loop-cell-preserved c = image_gathered c.loop-cell.invariant c.in-Some.ensures.steps c.add_start.ensures

pub returns : goal.returns
returns c = fun_ext (all_gathered c.loop-cell.invariant c.in-None.ensures.steps)
