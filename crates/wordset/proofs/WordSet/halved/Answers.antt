use Rattle.std.proofs.Common.{◌≡◌, ◌∙◌, ◌<◌, ◌-◌, ◌^◌, ◌&&◌, ◌||◌, ap, arith}
use Rattle.wordset.specs.Words.{minus, plus}
use Rattle.wordset.specs.Lanes.{words}
use Rattle.wordset.proofs.Parts.{weight_small}
use Rattle.wordset.proofs.Halves.{down_place, halved-steps}
use Rattle.wordset.proofs.WordSet.halved.Goals as goal
use Rattle.wordset.proofs.SetLemmas.{same_words, shift_at}

pub returns : goal.returns
returns c =
    let k : c.complement.result ≡ 4095 - 2 ^ c.args.at = c.complement.ensures ∙ ap (λ n. 4095 - n) c.weight.ensures in
    λ v h.
    let place : minus v c.increment-negated.result ≡ plus v (2 ^ c.args.at) = down_place (2 ^ c.args.at) v c.complement.result c.increment-negated.result (weight_small c.args.at c.requires) h k c.increment-negated.ensures in
    let below : minus v c.increment-negated.result < 4096 = omega arith in
    halved-steps (words c.args.self.now) (words c.meet-having.result) (words c.union.result) c.args.at v (minus v c.increment-negated.result) place
    (same_words c.meet-having.ensures (minus v c.increment-negated.result) below ∙ ap (λ p. words c.args.self.now (minus v c.increment-negated.result) && p) (c.having.ensures (minus v c.increment-negated.result) below))
    (same_words c.union.ensures v h ∙ ap (λ p. words c.args.self.now v || p) (shift_at (words c.shift.result) (words c.meet-having.result) c.increment-negated.result c.shift.ensures v h))
