use Rattle.std.proofs.Common.{◌*◌, ◌%◌, ◌==◌, ◌||◌, ◌&&◌, sym, ap, ◌∙◌}
use Rattle.wordset.specs.Words.{plus, some_below}
use Rattle.wordset.specs.Lanes.{words}
use Rattle.wordset.proofs.IterLemmas.{none_gathered, image_gathered, all_gathered}
use Rattle.peripherals.specs.Loading.{image_of}
use Rattle.domain.specs.Locations.{tape_word}
use Rattle.domain.proofs.SetLemmas.{kept_all, and_yes, or_none}
use Rattle.domain.proofs.sets.keep_pointing.Goals as goal

pub loop-word-init : goal.loop-word-init
loop-word-init c = none_gathered c.iter-word-items.ensures c.into_iter-word-iterator.ensures.into_iter_gives (λ v. ap (λ t. t v) c.empty-found.ensures)

pub loop-word-preserved-then-may_start_within : goal.loop-word-preserved-then-may_start_within
loop-word-preserved-then-may_start_within c = image_gathered c.loop-word.invariant c.in-Some.ensures.steps
    (λ v. ap (λ t. t v) c.insert.ensures ∙ ap (λ p. words c.loop-word.found v || p) (and_yes (v == c.in-Some.word) (some_below 4096 (λ w. tape_word (image_of c.args.image.now (plus c.in-Some.word c.args.k)) w && words c.args.set.now ((c.args.c * w) % 4096)))
    (ap (λ x. some_below 4096 (λ w. tape_word (image_of c.args.image.now x) w && words c.args.set.now ((c.args.c * w) % 4096))) (sym c.add.ensures) ∙ sym c.may_start_within.ensures ∙ c.if-may_start_within.true)))

pub loop-word-preserved : goal.loop-word-preserved
loop-word-preserved c = image_gathered c.loop-word.invariant c.in-Some.ensures.steps
    (λ v. or_none (words c.loop-word.found v) (v == c.in-Some.word) (some_below 4096 (λ w. tape_word (image_of c.args.image.now (plus c.in-Some.word c.args.k)) w && words c.args.set.now ((c.args.c * w) % 4096)))
    (ap (λ x. some_below 4096 (λ w. tape_word (image_of c.args.image.now x) w && words c.args.set.now ((c.args.c * w) % 4096))) (sym c.add.ensures) ∙ sym c.may_start_within.ensures ∙ c.if-may_start_within.false))

pub returns : goal.returns
returns c = kept_all c.args.place.now c.loop-word.found (λ v. some_below 4096 (λ w. tape_word (image_of c.args.image.now (plus v c.args.k)) w && words c.args.set.now ((c.args.c * w) % 4096)))
    (all_gathered c.loop-word.invariant c.in-None.ensures.steps)
