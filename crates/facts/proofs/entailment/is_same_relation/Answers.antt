use Rattle.facts.proofs.ShowingLemmas.{one_sum, same_sums}
use Rattle.transfer.proofs.EntailLemmas.{not_true, not_both}
use Rattle.std.proofs.Common.{◌∙◌, sym}
use Rattle.facts.proofs.entailment.is_same_relation.Goals as goal

pub returns-then-not-is_same : goal.returns-then-not-is_same
returns-then-not-is_same c = not_true (λ h. not_both _ c.if-not-is_same.true (λ s. c.is_same.ensures ∙ same_sums _ _ s) h.0)

pub returns : goal.returns
returns c = (
  λ t. (one_sum _ _ (sym c.is_same.ensures ∙ c.if-not-is_same.false), c.is_same-2.ensures.0 t),
  λ h. c.is_same-2.ensures.1 h.1,
)
