use Rattle.std.proofs.Common.{ap, refl, ◌∙◌}
use Rattle.wordset.specs.Words.{Words}
use Rattle.wordset.proofs.SetLemmas.{same_words}
use Rattle.declaration.specs.Drafts.{gathered}
use Rattle.declaration.proofs.RuleLemmas.{held_kept, misplaced_found, named_kept}
use Rattle.declaration.proofs.drafts.Draft.misplaced.Goals as goal

pub returns : goal.returns
returns g c = λ v h.
    let d = c.args.self.now in
    rw (same_words c.union-2.ensures v h, same_words c.union.ensures v h, same_words c.minus.ensures v h, same_words c.minus-2.ensures v h, same_words c.minus-3.ensures v h)
    (misplaced_found (gathered d) c.args.bodies.now c.args.entries.now v c.requires.bodies c.requires.entries _ _ _ _
    (ap (λ (s : Words). s v) c.named_entries-named.ensures ∙ named_kept (gathered d) d.moves c.deref.result.now d.skips.items c.deref-2.result.now d.returns.items v refl c.deref.ensures.value refl c.deref-2.ensures.value refl)
    refl refl
    (ap (λ (s : Words). s v) c.held_places-held.ensures ∙ held_kept (gathered d) c.deref-3.result.now d.holds.items v c.deref-3.ensures.value refl))
