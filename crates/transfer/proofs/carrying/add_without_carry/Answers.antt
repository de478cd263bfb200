use Rattle.std.proofs.Common.{◌<◌, ap, ◌∙◌, arith}
use Rattle.wordset.specs.Words.{Words, between, meet, shifted, union}
use Rattle.wordset.specs.Lanes.{words}
use Rattle.transfer.proofs.CarryingLemmas.{without_carry_of}
use Rattle.transfer.proofs.carrying.add_without_carry.Goals as goal

pub returns : goal.returns
returns c =
    let small : c.args.word < 4096 = omega (arith, c.index-index.ensures.same, c.index-index.ensures.small) in
    c.union.ensures ∙ ap (λ (s : Words). union (words c.args.found.now) s)
    (c.meet.ensures ∙ ap (λ (s : Words). meet s (words c.range-high.result)) c.shift.ensures
    ∙ ap (λ (s : Words). meet (shifted (words c.args.set.now) c.args.word) s) (c.range-high.ensures ∙ ap (λ n. between c.args.word n) c.from_index.ensures)
    ∙ without_carry_of c.args.word (words c.args.set.now) small)
