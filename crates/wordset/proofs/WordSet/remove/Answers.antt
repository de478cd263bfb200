use Rattle.std.proofs.Common.{◌∙◌, ap}
use Rattle.wordset.specs.Words.{difference}
use Rattle.wordset.specs.Lanes.{words}
use Rattle.wordset.proofs.WordSet.remove.Goals as goal
use Rattle.wordset.proofs.LaneBits.{difference-one}

pub returns : goal.returns
returns c = c.minus.ensures ∙ ap (λ t. difference (words c.args.self.now) t) c.one.ensures ∙ difference-one (words c.args.self.now) c.args.word
