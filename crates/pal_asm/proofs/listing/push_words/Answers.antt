use Rattle.std.proofs.Common.{◌∙◌, sym}
use Rattle.pal_asm.proofs.Fronts.{words_on}
use Rattle.pal_asm.proofs.listing.push_words.Goals as goal

pub loop-rest-preserved : goal.loop-rest-preserved
loop-rest-preserved g c =
    let step = words_on c.args.place c.loop-rest.rest.now c.word-item.result c.loop-rest.text.items _ _ c.in-len1-up.len_at_least c.word-item.is
    (sym c.stands_at.ensures ∙ c.if-not-stands_at.false) c.in_ok-push_word.ensures c.in_ok-extend_from_slice.ensures.items in
    (step.0 ∙ c.loop-rest.invariant.0, step.1 ∙ c.loop-rest.invariant.1)
