use Rattle.std.proofs.Common.{◌*◌, ◌%◌, ap, ◌∙◌, arith}
use Rattle.wordset.specs.Lanes.{words}
use Rattle.peripherals.specs.Loading.{image_of}
use Rattle.domain.proofs.SetLemmas.{tape_one}
use Rattle.domain.proofs.sets.may_start_within.Goals as goal

pub returns-in-Some : goal.returns-in-Some
returns-in-Some c =
    c.contains.ensures ∙ ap (λ x. words c.args.set.now x) c.product.ensures
    ∙ tape_one (image_of c.args.image.now c.args.cell) c.in-Some.word (λ w. words c.args.set.now ((c.args.c * w) % 4096)) c.in-Some.ensures (omega (arith, c.index-index.ensures.same, c.index-index.ensures.small))
