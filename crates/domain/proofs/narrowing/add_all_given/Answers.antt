use Rattle.std.proofs.Common.{refl}
use Rattle.wordset.proofs.IterLemmas.{none_gathered, image_gathered, all_gathered}
use Rattle.domain.proofs.narrowing.add_all_given.Goals as goal

pub loop-word-init : goal.loop-word-init
loop-word-init c = (
  none_gathered c.iter-word-items.ensures c.into_iter-word-iterator.ensures.into_iter_gives (λ v. refl),
  none_gathered c.iter-word-items.ensures c.into_iter-word-iterator.ensures.into_iter_gives (λ v. refl),
  none_gathered c.iter-word-items.ensures c.into_iter-word-iterator.ensures.into_iter_gives (λ v. refl),
  none_gathered c.iter-word-items.ensures c.into_iter-word-iterator.ensures.into_iter_gives (λ v. refl),
)

pub loop-word-preserved : goal.loop-word-preserved
loop-word-preserved c = (
  image_gathered c.loop-word.invariant.0 c.in-Some.ensures.steps c.add_given.ensures.cells,
  image_gathered c.loop-word.invariant.1 c.in-Some.ensures.steps c.add_given.ensures.accumulators,
  image_gathered c.loop-word.invariant.2 c.in-Some.ensures.steps c.add_given.ensures.differences,
  image_gathered c.loop-word.invariant.3 c.in-Some.ensures.steps c.add_given.ensures.links,
)

pub returns : goal.returns
returns c = record {
  cells = all_gathered c.loop-word.invariant.0 c.in-None.ensures.steps;
  accumulators = all_gathered c.loop-word.invariant.1 c.in-None.ensures.steps;
  differences = all_gathered c.loop-word.invariant.2 c.in-None.ensures.steps;
  links = all_gathered c.loop-word.invariant.3 c.in-None.ensures.steps;
}
