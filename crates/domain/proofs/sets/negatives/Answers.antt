use Rattle.std.proofs.Common.{ap, ◌∙◌}
use Rattle.wordset.specs.Words.{shifted}
use Rattle.wordset.specs.Lanes.{words}
use Rattle.domain.proofs.SetLemmas.{negative}
use Rattle.domain.proofs.sets.negatives.Goals as goal

pub returns : goal.returns
returns c = c.shift.ensures ∙ ap (λ k. shifted (words c.complements.result) k) c.from_index.ensures ∙ ap (λ s. shifted s 1) c.complements.ensures ∙ negative c.args.set.now
