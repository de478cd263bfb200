use Rattle.std.proofs.Common.{refl}
use Rattle.declaration.specs.Drafts.{gathered}
use Rattle.declaration.proofs.RuleLemmas.{halt_outside_found}
use Rattle.wordset.proofs.SetLemmas.{same_words}
use Rattle.declaration.proofs.drafts.Draft.halts_outside.Goals as goal

pub returns : goal.returns
returns g c = λ v h.
    rw (same_words c.minus.ensures v h, same_words c.union.ensures v h)
    (halt_outside_found (gathered c.args.self.now) c.args.bodies.now v c.requires _ _ refl refl)
