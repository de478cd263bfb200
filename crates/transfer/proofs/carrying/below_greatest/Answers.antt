use Rattle.std.proofs.Common.{ap, ◌∙◌}
use Rattle.wordset.specs.Words.{Words, all_words, between, difference}
use Rattle.wordset.specs.Lanes.{words}
use Rattle.transfer.proofs.CarryingLemmas.{no_sums, below_greatest}
use Rattle.transfer.proofs.carrying.below_greatest.Goals as goal

pub returns-in-None : goal.returns-in-None
returns-in-None c = c.empty.ensures ∙ no_sums 1 (words c.args.set.now) all_words (λ v h. ap (λ (s : Words). s v) c.in-None.ensures)

pub returns-in-Some : goal.returns-in-Some
returns-in-Some c =
    c.minus.ensures ∙ ap (λ (s : Words). difference s (words c.range.result)) c.all.ensures
    ∙ ap (λ (s : Words). difference all_words s) (c.range.ensures ∙ ap (λ n. between c.in-Some.word n) c.from_index.ensures)
    ∙ below_greatest (words c.args.set.now) c.in-Some.word c.in-Some.ensures
