use Rattle.std.proofs.Common.{◌<◌, sym, ap, ◌∙◌, arith}
use Rattle.wordset.specs.Words.{Words, shifted}
use Rattle.domain.specs.Brief.{brief_words}
use Rattle.domain.proofs.SumSetLemmas.{moved_one, moved_all}
use Rattle.domain.proofs.relations.add_times.Goals as goal

pub returns-in-Some : goal.returns-in-Some
returns-in-Some c =
    let small : c.args.by < 4096 = omega (arith, c.index-index.ensures.same, c.index-index.ensures.small) in
    c.set_one.ensures ∙ moved_one (brief_words c.args.set.now) c.args.c c.args.by c.in-Some.word c.product-more.result c.add.result small (sym c.in-Some.ensures) c.product-more.ensures c.add.ensures

pub returns-in-None : goal.returns-in-None
returns-in-None c =
    let small : c.args.by < 4096 = omega (arith, c.index-index.ensures.same, c.index-index.ensures.small) in
    c.set.ensures ∙ c.shift.ensures ∙ ap (λ (a : Words). shifted a c.product-more.result) c.put.ensures ∙ moved_all (brief_words c.args.set.now) c.args.c c.args.by c.product-more.result small c.product-more.ensures
