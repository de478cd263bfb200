use Rattle.std.proofs.Common.{◌∙◌, ap, rules, sym}
use Rattle.declaration.specs.Declaration.{ReturnAssertion}
use Rattle.search_commands.proofs.AddingLemmas.{fails_with}
use Rattle.search_commands.proofs.AssertingLemmas.{same_at_returns}
use Rattle.search_commands.proofs.asserting.is_same_at_returns.Goals as goal

pub returns-then-not-is_same_set : goal.returns-then-not-is_same_set
returns-then-not-is_same_set c =
    fails_with _ c.if-not-is_same_set.true c.is_same_set.ensures.1 (λ same. c.offsets.ensures ∙ ap (λ (x : ReturnAssertion). x.offsets) same ∙ sym c.offsets-2.ensures)

pub returns : goal.returns
returns c = (
  λ t. same_at_returns c.args.a.now c.args.b.now (search rules)
      (sym c.offsets.ensures ∙ c.is_same_set.ensures.0 c.if-not-is_same_set.false ∙ c.offsets-2.ensures)
      (sym c.assertion.ensures ∙ c.is_same_assertion.ensures.0 t ∙ c.assertion-2.ensures),
  λ same. c.is_same_assertion.ensures.1 (c.assertion.ensures ∙ ap (λ (x : ReturnAssertion). x.assertion) same ∙ sym c.assertion-2.ensures),
)
