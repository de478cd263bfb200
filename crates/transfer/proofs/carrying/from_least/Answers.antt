use Rattle.std.proofs.Common.{ap, ◌∙◌, arith}
use Rattle.wordset.specs.Words.{all_words, between}
use Rattle.wordset.specs.Lanes.{words}
use Rattle.transfer.proofs.CarryingLemmas.{no_sums, from_least}
use Rattle.transfer.proofs.carrying.from_least.Goals as goal

pub returns-in-None : goal.returns-in-None
returns-in-None c = c.empty.ensures ∙ no_sums 0 (words c.args.set.now) all_words (λ v h. c.in-None.ensures v (omega arith) h)

pub returns-in-Some : goal.returns-in-Some
returns-in-Some c = c.range.ensures ∙ ap (λ n. between c.in-Some.word n) c.from_index.ensures ∙ from_least (words c.args.set.now) c.in-Some.word c.in-Some.ensures
