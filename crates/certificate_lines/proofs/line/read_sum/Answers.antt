use Rattle.std.proofs.Common.{◌≡◌, ◌++◌, true, refl, ap, ◌∙◌, List, ℕ, [], Some, length, append_assoc, subst, sym, arith}
use Rattle.std.proofs.lemmas.Bool.{and_parts}
use Rattle.std.specs.Prelude.{codes, IfSome}
use Rattle.wordset.specs.Words.{has_some}
use Rattle.domain.specs.Terms.{Sum}
use Rattle.certificate_lines.specs.FieldSpelling.{set_text}
use Rattle.certificate_lines.specs.FieldsLeft.{left}
use Rattle.certificate_lines.specs.Runs.{added}
use Rattle.certificate_lines.specs.Spelling.{sum_text}
use Rattle.certificate_lines.specs.Packed.{packed_sum_of}
use Rattle.certificate_lines.specs.LineOf.{is_relation}
use Rattle.certificate_lines.proofs.DigitLemmas.{at_some}
use Rattle.certificate_lines.proofs.LineLemmas.{both, earlier, whole}
use Rattle.certificate_lines.proofs.SumReadLemmas.{added_ends, one_laid, sum_spelled, sum_line_fields}
use Rattle.certificate_lines.proofs.line.read_sum.Goals as goal

pub returns-else-is_done-clause-only : goal.returns-else-is_done-clause-only
returns-else-is_done-clause-only c = λ r form e.
    let none : length c.args.runs.now.items ≡ 0 = ap length c.requires.runs in
    let h = and_parts (is_relation r.sum) _ form in
    let sum = c.sum-sum.ensures.only r.sum _ h.0 (c.skip.ensures.only _ (c.of-fields.ensures ∙ ap (λ (x : List ℕ). Some x) (e ∙ sum_line_fields r))) in
    let set = c.some_set-count.ensures.only r.set [] (omega (arith, none)) h.1 tt sum.1 in
    c.if-is_done.ensures.1 set.0

pub returns-then-is_done-clause-read : goal.returns-then-is_done-clause-read
returns-then-is_done-clause-read c = λ steps.
    let old = c.args.runs.now.items in
    let new = c.some_set-count.new.runs.items in
    let set = added old new in
    let sum : Sum = packed_sum_of c.sum-sum.result in
    let f0 = left c.of-fields.result in let f1 = left c.skip.new.self in let f2 = left c.sum-sum.new.self in let f3 = left c.some_set-count.new.self in
    let done = c.if-is_done.ensures.0 refl in
    let form = at_some (λ r. is_relation sum ≡ true) f3 [] (earlier (is_relation sum ≡ true) f2 f3 (set_text set) c.sum-sum.ensures.form c.some_set-count.ensures.read) done in
    rw (one_laid old new c.some_set-count.result c.requires.runs c.some_set-count.ensures.count)
    (sum_spelled (record { sum = sum; set = set }) c.args.line.now form (at_some (λ r. has_some set ≡ true) f3 [] c.some_set-count.ensures.some done) (added_ends old new)
    (whole c.args.line.now (codes "sum " ++ sum_text sum ++ codes " in " ++ set_text set) f0 f3 c.of-fields.ensures done
    (subst (λ (x : List ℕ). IfSome f3 (λ r. f0 ≡ Some (x ++ set_text set ++ r))) (sym (append_assoc (codes "sum ") (sum_text sum) (codes " in "))) (both f0 f2 f3 (codes "sum " ++ (sum_text sum ++ codes " in ")) (set_text set)
    (both f0 f1 f2 (codes "sum ") (sum_text sum ++ codes " in ") c.skip.ensures.read c.sum-sum.ensures.read) c.some_set-count.ensures.read))))
