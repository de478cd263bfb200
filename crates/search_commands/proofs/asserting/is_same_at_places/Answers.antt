use Rattle.std.proofs.Common.{◌∙◌, ap, sym}
use Rattle.declaration.specs.Declaration.{PlaceAssertion}
use Rattle.search_commands.proofs.AddingLemmas.{fails_with}
use Rattle.search_commands.proofs.AssertingLemmas.{same_at_places}
use Rattle.search_commands.proofs.asserting.is_same_at_places.Goals as goal

pub returns-then-not-is_same_set : goal.returns-then-not-is_same_set
returns-then-not-is_same_set c =
    fails_with _ c.if-not-is_same_set.true c.is_same_set.ensures.1 (λ same. c.places.ensures ∙ ap (λ (x : PlaceAssertion). x.places) same ∙ sym c.places-2.ensures)

pub returns : goal.returns
returns c = (
  λ t. same_at_places c.args.a.now c.args.b.now
      (sym c.places.ensures ∙ c.is_same_set.ensures.0 c.if-not-is_same_set.false ∙ c.places-2.ensures)
      (sym c.assertion.ensures ∙ c.is_same_assertion.ensures.0 t ∙ c.assertion-2.ensures),
  λ same. c.is_same_assertion.ensures.1 (c.assertion.ensures ∙ ap (λ (x : PlaceAssertion). x.assertion) same ∙ sym c.assertion-2.ensures),
)
