use Rattle.std.proofs.Common.{◌∙◌, ap, sym}
use Rattle.declaration.specs.Declaration.{Assertion}
use Rattle.search_commands.proofs.AddingLemmas.{fails_with}
use Rattle.search_commands.proofs.AssertingLemmas.{same_assertions}
use Rattle.search_commands.proofs.asserting.is_same_assertion.Goals as goal

pub returns-then-not-is_same_subject : goal.returns-then-not-is_same_subject
returns-then-not-is_same_subject c =
    fails_with _ c.if-not-is_same_subject.true c.is_same_subject.ensures.1 (λ same. c.subject.ensures ∙ ap (λ (x : Assertion). x.subject) same ∙ sym c.subject-2.ensures)

pub returns : goal.returns
returns c = (
  λ t. same_assertions c.args.a.now c.args.b.now
      (sym c.subject.ensures ∙ c.is_same_subject.ensures.0 c.if-not-is_same_subject.false ∙ c.subject-2.ensures) (sym c.words.ensures ∙ c.is_same_set.ensures.0 t ∙ c.words-2.ensures),
  λ same. c.is_same_set.ensures.1 (c.words.ensures ∙ ap (λ (x : Assertion). x.words) same ∙ sym c.words-2.ensures),
)
