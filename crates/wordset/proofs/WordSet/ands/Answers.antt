use Rattle.std.proofs.Common.{◌∙◌, ap, sym}
use Rattle.wordset.specs.Lanes.{words}
use Rattle.wordset.proofs.WordSet.ands.Goals as goal
use Rattle.wordset.proofs.Complements.{ands_swap}
use Rattle.wordset.specs.Words.{ands, all_words}

pub returns-then-is_all : goal.returns-then-is_all
returns-then-is_all c = c.ands_with_all.ensures ∙ ap (ands (words c.args.self.now)) (sym (c.is_all.ensures.0 c.if-is_all.true))

pub returns-then-is_all-2 : goal.returns-then-is_all-2
returns-then-is_all-2 c = c.ands_with_all-then-is_all-2.ensures ∙ ands_swap (words c.args.other.now) all_words ∙ ap (λ s. ands s (words c.args.other.now)) (sym (c.is_all-2.ensures.0 c.if-is_all-2.true))
