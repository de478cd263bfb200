use Rattle.std.proofs.Common.{◌≡◌, ◌%◌, ◌^◌, sym, ap, ◌∙◌, arith, subst, ◌<◌}
use Rattle.wordset.specs.Bits.{ors_with}
use Rattle.wordset.specs.Lanes.{words}
use Rattle.wordset.proofs.WordSet.or_word.Goals as goal
use Rattle.wordset.proofs.WordSet.or_word.Goals.{then-bits-at-eq1, else-bits-at-eq1}
use Rattle.wordset.proofs.Parts.{step_without, bit_test}
use Rattle.wordset.proofs.Ors.{with_none, with_step, put_bit_same, with_past}
use Rattle.wordset.proofs.SetLemmas.{words_are}

pub loop-at-init : goal.loop-at-init
loop-at-init c = λ v h. with_none c.index-bits.result (words c.args.self.now) v h

pub loop-at-preserved : goal.loop-at-preserved
loop-at-preserved c =
    let a = words c.args.self.now in
    let mask = c.index-bits.result in
    let at = c.loop-at.at in
    elim c.if-bits-at-eq1.branch [
      | then-bits-at-eq1 w ↦
          λ v h. ap (λ s. words s v) w.found-is ∙ w.put_bit-found.ensures v h
          ∙ put_bit_same at (words c.loop-at.found) (ors_with (mask % 2 ^ at) a) c.loop-at-test.true c.loop-at.invariant v h
          ∙ with_step mask at a v h c.loop-at-test.true c.index-bits.ensures.small (sym (bit_test mask at) ∙ w.if-bits-at-eq1.true)
      | else-bits-at-eq1 w ↦
          λ v h. ap (λ s. words s v) w.found-is ∙ c.loop-at.invariant v h
          ∙ ap (λ k. ors_with k a v) (step_without mask at (λ e. w.if-bits-at-eq1.false (bit_test mask at ∙ e)))
    ]

pub returns : goal.returns
returns c =
    let a = words c.args.self.now in
    let done : c.loop-at.at ≡ 12 = omega arith in
    let same : c.index-bits.result ≡ c.args.word = c.index-bits.ensures.same in
    let whole : c.index-bits.result % 2 ^ 12 ≡ c.index-bits.result = omega arith in
    words_are c.loop-at.found (ors_with c.args.word a) (with_past c.args.word a (subst (λ n. n < 4096) same c.index-bits.ensures.small))
    (λ v h. c.loop-at.invariant v h ∙ ap (λ at. ors_with (c.index-bits.result % 2 ^ at) a v) done ∙ ap (λ k. ors_with k a v) (whole ∙ same))
