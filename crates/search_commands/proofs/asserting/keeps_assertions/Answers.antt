use Rattle.std.proofs.Common.{◌∙◌, ◌++◌, ap, sym}
use Rattle.search_commands.proofs.AddingLemmas.{fails_with}
use Rattle.search_commands.proofs.asserting.keeps_assertions.Goals as goal

pub returns-then-not-are_same : goal.returns-then-not-are_same
returns-then-not-are_same g c = fails_with _ c.if-not-are_same.true c.are_same.ensures.1 (λ keeps. c.holds.ensures ∙ keeps.holds ∙ sym c.holds-2.ensures)

pub returns : goal.returns
returns g c = (
  λ t. let begun = c.begins_with.ensures.0 t in record {
    holds = sym c.holds.ensures ∙ c.are_same.ensures.0 c.if-not-are_same.false ∙ c.holds-2.ensures;
    others = begun.0;
    returns = sym c.returns.ensures ∙ begun.1 ∙ ap (λ l. l ++ begun.0) c.returns-2.ensures;
  },
  λ keeps. c.begins_with.ensures.1 (keeps.others, c.returns.ensures ∙ keeps.returns ∙ ap (λ l. l ++ keeps.others) (sym c.returns-2.ensures)),
)
