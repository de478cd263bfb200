use Rattle.std.proofs.Common.{refl}
use Rattle.declaration.specs.Drafts.{gathered}
use Rattle.declaration.proofs.RuleLemmas.{overlaps_found}
use Rattle.wordset.proofs.SetLemmas.{same_words}
use Rattle.declaration.proofs.drafts.Draft.overlaps.Goals as goal

pub returns : goal.returns
returns g c = λ v h.
    rw (same_words c.union-4.ensures v h, same_words c.union-3.ensures v h, same_words c.union-2.ensures v h, same_words c.union.ensures v h, same_words c.meet.ensures v h, same_words c.meet-2.ensures v h, same_words c.meet-3.ensures v h)
    (overlaps_found (gathered c.args.self.now) c.args.bodies.now c.args.entries.now v c.requires.bodies c.requires.entries _ _ _
    refl refl refl)
