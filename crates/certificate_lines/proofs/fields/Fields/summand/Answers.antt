use Rattle.std.proofs.Common.{◌∙◌, List, ℕ, Some, ap}
use Rattle.certificate_lines.proofs.SumFieldLemmas.{summand_made, further_fields}
use Rattle.certificate_lines.proofs.fields.Fields.summand.Goals as goal

pub returns-clause-only : goal.returns-clause-only
returns-clause-only c = λ s rest term small e.
    let first = c.skip.ensures.only _ (e ∙ ap (λ (x : List ℕ). Some x) (further_fields s rest)) in
    let coefficient = c.coefficient-coefficient.ensures.only s.coefficient _ small first in
    let second = c.skip-2.ensures.only _ coefficient.1 in
    let told = c.term-term.ensures.only s.term rest term second in
    (summand_made s _ _ coefficient.0 told.0, told.1)
