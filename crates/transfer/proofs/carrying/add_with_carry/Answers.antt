use Rattle.std.proofs.Common.{◌<◌, ap, ◌∙◌, arith}
use Rattle.wordset.specs.Words.{Words, between, difference, shifted, union}
use Rattle.wordset.specs.Lanes.{words}
use Rattle.transfer.proofs.CarryingLemmas.{with_carry_of}
use Rattle.transfer.proofs.carrying.add_with_carry.Goals as goal

pub returns : goal.returns
returns c =
    let small : c.args.word < 4096 = omega (arith, c.index-index.ensures.same, c.index-index.ensures.small) in
    c.union.ensures ∙ ap (λ (s : Words). union (words c.args.found.now) s)
    (c.minus.ensures ∙ ap (λ (s : Words). difference s (words c.range-high.result)) c.shift.ensures
    ∙ ap (λ (s : Words). difference (shifted (words c.args.set.now) c.args.word) s) (c.range-high.ensures ∙ ap (λ n. between c.args.word n) c.from_index.ensures)
    ∙ with_carry_of c.args.word (words c.args.set.now) small)
