use Rattle.std.proofs.Common.{◌∙◌, ap, sym}
use Rattle.std.proofs.lemmas.Bool.{true≢false}
use Rattle.certificate_lines.specs.LineOf.{is_relation}
use Rattle.certificate_lines.proofs.fields.Fields.sum.Goals as goal

pub returns-then-not-is_relation-clause-only : goal.returns-then-not-is_relation-clause-only
returns-then-not-is_relation-clause-only c = λ s rest form e.
    let p = c.told_sum-sum.ensures.only s rest form e in absurd (true≢false (sym form ∙ (ap is_relation (sym p.0) ∙ sym c.if-not-is_relation.ensures)))
