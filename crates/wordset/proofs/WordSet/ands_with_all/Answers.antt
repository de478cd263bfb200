use Rattle.std.proofs.Common.{◌∙◌, arith}
use Rattle.wordset.specs.Lanes.{words}
use Rattle.wordset.proofs.Halves.{lowered_none, lowered_step, lowered_all}
use Rattle.wordset.proofs.WordSet.ands_with_all.Goals as goal
use Rattle.wordset.proofs.SetLemmas.{words_are}
use Rattle.wordset.proofs.Complements.{ands_past}
use Rattle.wordset.specs.Words.{all_words}

pub loop-at-init : goal.loop-at-init
loop-at-init c = lowered_none (words c.args.self.now)

pub loop-at-preserved : goal.loop-at-preserved
loop-at-preserved c = λ v h. c.halved-found.ensures v h ∙ lowered_step c.loop-at.at (words c.loop-at.found) (words c.args.self.now) v c.loop-at-test.true h c.loop-at.invariant

pub returns : goal.returns
returns c = words_are c.loop-at.found _ (ands_past (words c.args.self.now) all_words) (λ v h. c.loop-at.invariant v h ∙ lowered_all (words c.args.self.now) c.loop-at.at v (omega arith) h)
