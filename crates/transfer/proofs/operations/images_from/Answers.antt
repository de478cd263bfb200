use Rattle.std.proofs.Common.{ap}
use Rattle.std.proofs.Math.Path.{fun_ext}
use Rattle.wordset.specs.Words.{Words}
use Rattle.wordset.proofs.IterLemmas.{none_gathered, image_gathered, all_gathered}
use Rattle.transfer.proofs.operations.images_from.Goals as goal

pub loop-ac-init : goal.loop-ac-init
loop-ac-init c = none_gathered c.iter-ac-items.ensures c.into_iter-ac-iterator.ensures.into_iter_gives (λ v. ap (λ (s : Words). s v) c.empty-found.ensures)

pub loop-ac-preserved : goal.loop-ac-preserved
loop-ac-preserved c = image_gathered c.loop-ac.invariant c.in-Some.ensures.steps c.add_image.ensures

pub returns : goal.returns
returns c = fun_ext (all_gathered c.loop-ac.invariant c.in-None.ensures.steps)
