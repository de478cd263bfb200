use Rattle.std.proofs.Common.{◌||◌, ◌==◌, ◌∙◌, refl, ap}
use Rattle.std.specs.Prelude.{bit_and}
use Rattle.wordset.specs.Lanes.{words}
use Rattle.wordset.proofs.IterLemmas.{none_gathered, image_gathered, all_gathered}
use Rattle.wordset.proofs.Pairs.{eq_swap}
use Rattle.wordset.proofs.WordSet.put_ands_with.Goals as goal

pub loop-other-init : goal.loop-other-init
loop-other-init c = none_gathered c.iter-other-items.ensures c.into_iter-other-iterator.ensures.into_iter_gives (λ v. refl)

pub loop-other-preserved : goal.loop-other-preserved
loop-other-preserved c = image_gathered c.loop-other.invariant c.in-Some.ensures.steps
    (λ v. ap (λ t. t v) c.insert.ensures ∙ ap (λ w. words c.loop-other.found v || v == w) c.and.ensures ∙ ap (λ p. words c.loop-other.found v || p) (eq_swap v (bit_and c.args.word c.in-Some.other)))

pub returns : goal.returns
returns c = all_gathered c.loop-other.invariant c.in-None.ensures.steps
