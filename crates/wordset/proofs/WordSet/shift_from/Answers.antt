use Rattle.std.proofs.Common.{◌≡◌, ◌∙◌, ◌-◌, ◌/◌, ap, sym}
use Rattle.std.specs.Simd.Lanes.{chunk}
use Rattle.wordset.specs.Lanes.{twice}
use Rattle.wordset.proofs.WordSet.shift_from.Goals as goal
use Rattle.wordset.proofs.Shifts.{words-shift}
use Rattle.wordset.proofs.SetLemmas.{words_that}

pub returns : goal.returns
returns c =
    let stored : c.args.lanes.now ≡ twice c.self.inside.lanes = c.requires ∙ ap twice (sym c.self.view_is) in
    words_that c.joined.result _ (λ v h. rw (← c.self.view_is, ← c.index-by.ensures.same) (words-shift c.self.inside.lanes c.taken-near.result c.taken-far.result c.joined.result c.index-by.result
    c.self.invariant c.index-by.ensures.small
    (c.taken-near.ensures ∙ ap (λ t. chunk (64 - c.index-by.result / 64) 64 t) stored) (c.taken-far.ensures ∙ ap (λ t. chunk (63 - c.index-by.result / 64) 64 t) stored) c.joined.ensures v h))
