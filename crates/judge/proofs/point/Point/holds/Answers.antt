use Rattle.std.proofs.Common.{sym, ◌∙◌}
use Rattle.std.proofs.lemmas.Bool.{true≢false}
use Rattle.judge.proofs.PointLemmas.{false_if}
use Rattle.judge.proofs.point.Point.holds.Goals as goal

pub returns-then-not-are_few : goal.returns-then-not-are_few
returns-then-not-are_few g c = false_if (λ h. true≢false (sym (c.are_few.ensures.1 h.0) ∙ c.if-not-are_few.true))

pub returns : goal.returns
returns g c = (λ t. (c.are_few.ensures.0 c.if-not-are_few.false, c.holds_for_each.ensures.0 t), λ h. c.holds_for_each.ensures.1 h.1)
