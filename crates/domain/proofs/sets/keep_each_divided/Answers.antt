use Rattle.std.proofs.Common.{◌*◌, ◌%◌, ◌==◌, ◌||◌, sym, ap, ◌∙◌}
use Rattle.wordset.specs.Lanes.{words}
use Rattle.wordset.proofs.IterLemmas.{none_gathered, image_gathered, all_gathered}
use Rattle.domain.proofs.SetLemmas.{kept_all, and_yes, or_none}
use Rattle.domain.proofs.sets.keep_each_divided.Goals as goal

pub loop-word-init : goal.loop-word-init
loop-word-init c = none_gathered c.iter-word-items.ensures c.into_iter-word-iterator.ensures.into_iter_gives (λ v. ap (λ t. t v) c.empty-found.ensures)

pub loop-word-preserved-then-contains : goal.loop-word-preserved-then-contains
loop-word-preserved-then-contains c = image_gathered c.loop-word.invariant c.in-Some.ensures.steps
    (λ v. ap (λ t. t v) c.insert.ensures ∙ ap (λ p. words c.loop-word.found v || p) (and_yes (v == c.in-Some.word) (words c.args.set.now ((c.args.c * c.in-Some.word) % 4096))
    (ap (λ x. words c.args.set.now x) (sym c.product.ensures) ∙ sym c.contains.ensures ∙ c.if-contains.true)))

pub loop-word-preserved : goal.loop-word-preserved
loop-word-preserved c = image_gathered c.loop-word.invariant c.in-Some.ensures.steps
    (λ v. or_none (words c.loop-word.found v) (v == c.in-Some.word) (words c.args.set.now ((c.args.c * c.in-Some.word) % 4096))
    (ap (λ x. words c.args.set.now x) (sym c.product.ensures) ∙ sym c.contains.ensures ∙ c.if-contains.false))

pub returns : goal.returns
returns c = kept_all c.args.place.now c.loop-word.found (λ v. words c.args.set.now ((c.args.c * v) % 4096)) (all_gathered c.loop-word.invariant c.in-None.ensures.steps)
