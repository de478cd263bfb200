use Rattle.wordset.specs.Words.{carries}
use Rattle.wordset.specs.Lanes.{words}
use Rattle.wordset.proofs.LinkLemmas.{two_are}
use Rattle.wordset.proofs.CarryLemmas.{carries_past}
use Rattle.wordset.proofs.WordSet.sums.Goals as goal

pub returns-clause-carries : goal.returns-clause-carries
returns-clause-carries c = two_are _ _ (carries (words c.args.self.now) (words c.args.other.now)) c.has_sum_without_carry.ensures c.has_sum_with_carry.ensures (carries_past (words c.args.self.now) (words c.args.other.now))
