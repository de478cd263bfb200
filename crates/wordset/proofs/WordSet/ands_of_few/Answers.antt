use Rattle.wordset.proofs.IterLemmas.{none_gathered, image_gathered, all_gathered}
use Rattle.wordset.proofs.WordSet.ands_of_few.Goals as goal
use Rattle.std.proofs.Common.{ap}
use Rattle.std.proofs.Math.Path.{fun_ext}

pub loop-word-init : goal.loop-word-init
loop-word-init c = none_gathered c.iter-word-items.ensures c.into_iter-word-iterator.ensures.into_iter_gives (λ v. ap (λ t. t v) c.empty-found.ensures)

pub loop-word-preserved : goal.loop-word-preserved
loop-word-preserved c = image_gathered c.loop-word.invariant c.in-Some.ensures.steps c.put_ands_with.ensures

pub returns : goal.returns
returns c = fun_ext (all_gathered c.loop-word.invariant c.in-None.ensures.steps)
