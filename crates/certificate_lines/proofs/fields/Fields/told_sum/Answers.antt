use Rattle.std.proofs.Common.{◌∙◌, List, ℕ, Some, ap, sym}
use Rattle.certificate_lines.proofs.SumFieldLemmas.{IsKept, is_kept, sum_fields, sum_is, same_coefficient}
use Rattle.certificate_lines.proofs.fields.Fields.told_sum.Goals as goal

pub returns-clause-only : goal.returns-clause-only
returns-clause-only c = λ s rest form e.
    let k : IsKept s = is_kept s form in
    let first = c.name-first.ensures.only k.first _ k.place (e ∙ ap (λ (x : List ℕ). Some x) (sum_fields s k rest)) in
    let second = c.summand-second.ensures.only k.second _ k.term k.coefficient first.1 in
    let third = c.third-third.ensures.only k.third rest k.cell (second.1 ∙ same_coefficient _ k.second k.third rest second.0) in
    (sum_is _ _ _ _ _ _ first.0 second.0 third.0 ∙ sym k.is, third.1)
