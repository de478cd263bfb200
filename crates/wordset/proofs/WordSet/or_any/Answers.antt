use Rattle.std.proofs.Common.{◌≡◌, ◌%◌, ◌^◌, sym, ap, ◌∙◌, arith}
use Rattle.wordset.specs.Words.{or_any}
use Rattle.wordset.specs.Lanes.{words}
use Rattle.wordset.proofs.WordSet.or_any.Goals as goal
use Rattle.wordset.proofs.WordSet.or_any.Goals.{then-parts-at-eq1, else-parts-at-eq1}
use Rattle.wordset.proofs.Parts.{any_none, step_with, step_without, bit_test, doubled_same}
use Rattle.wordset.proofs.SetLemmas.{words_are}
use Rattle.wordset.proofs.Complements.{any_past}

pub loop-at-init : goal.loop-at-init
loop-at-init c = λ v h. any_none c.index-parts.result (words c.args.self.now) v h

pub loop-at-preserved : goal.loop-at-preserved
loop-at-preserved c =
    let a = words c.args.self.now in
    let mask = c.index-parts.result in
    let at = c.loop-at.at in
    elim c.if-parts-at-eq1.branch [
      | then-parts-at-eq1 w ↦
          λ v h. ap (λ s. words s v) w.found-is ∙ w.doubled-found.ensures v h
          ∙ doubled_same at (words c.loop-at.found) (or_any (mask % 2 ^ at) a) c.loop-at-test.true c.loop-at.invariant v h
          ∙ step_with mask at a v h c.loop-at-test.true (sym (bit_test mask at) ∙ w.if-parts-at-eq1.true)
      | else-parts-at-eq1 w ↦
          λ v h. ap (λ s. words s v) w.found-is ∙ c.loop-at.invariant v h
          ∙ ap (λ k. or_any k a v) (step_without mask at (λ e. w.if-parts-at-eq1.false (bit_test mask at ∙ e)))
    ]

pub returns : goal.returns
returns c =
    let a = words c.args.self.now in
    let done : c.loop-at.at ≡ 12 = omega arith in
    let same : c.index-parts.result ≡ c.args.mask = c.index-parts.ensures.same in
    let whole : c.index-parts.result % 2 ^ 12 ≡ c.index-parts.result = omega arith in
    words_are c.loop-at.found (or_any c.args.mask a) (any_past c.args.mask a) (λ v h. c.loop-at.invariant v h ∙ ap (λ at. or_any (c.index-parts.result % 2 ^ at) a v) done ∙ ap (λ k. or_any k a v) (whole ∙ same))
