use Rattle.std.proofs.Common.{◌∙◌, ◌-◌, ap}
use Rattle.wordset.specs.Lanes.{words}
use Rattle.wordset.proofs.WordSet.ands_by_complements.Goals as goal
use Rattle.wordset.proofs.Complements.{ands-complements, ands_past}
use Rattle.wordset.proofs.SetLemmas.{words_are, mirror_at}

pub returns : goal.returns
returns c = words_are c.complements-3.result _ (ands_past (words c.args.self.now) (words c.args.other.now)) (λ v h. mirror_at (words c.complements-3.result) (words c.ors.result) c.complements-3.ensures v h ∙ ap (λ s. s (4095 - v)) c.ors.ensures
    ∙ ands-complements (words c.args.self.now) (words c.args.other.now) (words c.complements.result) (words c.complements-2.result) (mirror_at (words c.complements.result) (words c.args.self.now) c.complements.ensures) (mirror_at (words c.complements-2.result) (words c.args.other.now) c.complements-2.ensures) v h)
