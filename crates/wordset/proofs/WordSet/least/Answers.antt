use Rattle.wordset.specs.Lanes.{words}
use Rattle.wordset.proofs.WordSet.least.Goals as goal
use Rattle.wordset.proofs.Firsts.{first_is}

pub returns : goal.returns
returns c = first_is c.first_from.result (words c.args.self.now) c.first_from.ensures
