use Rattle.std.proofs.Common.{ℕ, ◌++◌, ap, refl, ◌∙◌}
use Rattle.std.specs.Prelude.{codes}
use Rattle.std.proofs.lemmas.Result.{on_ok_weaker}
use Rattle.declaration.specs.DeclarationInCode.{place_assertion_of, return_assertion_of}
use Rattle.diagnostics.specs.CheckText.{more_text}
use Rattle.diagnostics.proofs.CheckLemmas.{lines_counted}
use Rattle.diagnostics.proofs.verdicts.verdict.push_assertions.Goals as goal

pub returns : goal.returns
returns g c =
    on_ok_weaker c.push_more.result
    (λ is. is ∙ ap (λ (n : ℕ). c.args.text.now.items ++ more_text n (codes " assertions") (codes " assertions"))
    (lines_counted place_assertion_of return_assertion_of c.holds-at_places.result.now c.returns-at_returns.result.now _ _ _ _ refl refl c.holds-at_places.ensures c.returns-at_returns.ensures))
    c.push_more.ensures
