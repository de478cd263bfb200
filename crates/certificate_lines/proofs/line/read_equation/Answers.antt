use Rattle.std.proofs.Common.{◌≡◌, ◌++◌, ◌∙◌, refl, ap, sym, List, ℕ, [], Some, length, arith}
use Rattle.std.specs.Prelude.{codes}
use Rattle.std.proofs.lemmas.Bool.{and_parts}
use Rattle.word12.specs.Words.{octal_text}
use Rattle.domain.specs.LocationsInCode.{location_of}
use Rattle.domain.specs.Terms.{difference_of}
use Rattle.certificate_lines.specs.FieldSpelling.{name_text}
use Rattle.certificate_lines.specs.FieldsLeft.{left}
use Rattle.certificate_lines.specs.LineOf.{is_relation}
use Rattle.certificate_lines.proofs.LineLemmas.{both, whole}
use Rattle.certificate_lines.proofs.SumReadLemmas.{one_laid, IsDifference, difference_parts, equation_spelled, equation_of_fits, equation_fields, one_small, set_added}
use Rattle.certificate_lines.proofs.line.read_equation.Goals as goal

pub returns-clause-read : goal.returns-clause-read
returns-clause-read c = λ version steps old.
    let f0 = left c.of-fields.result in let f1 = left c.skip.new.self in let f2 = left c.name-left.new.self in let f3 = left c.skip-2.new.self in
    let f4 = left c.word-right.new.self in let f5 = left c.skip-3.new.self in let f6 = left c.word-more.new.self in let f7 = left c.one-count.new.self in
    let done = c.if-not-is_done.ensures.0 refl in
    let one = set_added f6 f7 _ _ c.one-count.ensures.read done in
    let x = location_of c.name-left.result in
    equation_spelled version x c.word-right.result c.word-more.result _ _ c.args.line.now old c.equation.ensures
    (one_laid c.args.runs.now.items c.one-count.new.runs.items c.one-count.result c.requires.runs c.one-count.ensures.count ∙ one.1)
    (c.if-not-is_before.ensures.0 refl) (omega arith) (omega arith)
    (whole c.args.line.now (codes "equal " ++ name_text x ++ codes " " ++ octal_text c.word-right.result ++ codes " " ++ octal_text c.word-more.result) f0 f6 c.of-fields.ensures one.0
    (both f0 f5 f6 (codes "equal " ++ name_text x ++ codes " " ++ octal_text c.word-right.result ++ codes " ") (octal_text c.word-more.result)
    (both f0 f4 f5 (codes "equal " ++ name_text x ++ codes " " ++ octal_text c.word-right.result) (codes " ")
    (both f0 f3 f4 (codes "equal " ++ name_text x ++ codes " ") (octal_text c.word-right.result)
    (both f0 f2 f3 (codes "equal " ++ name_text x) (codes " ")
    (both f0 f1 f2 (codes "equal ") (name_text x) c.skip.ensures.read c.name-left.ensures.read) c.skip-2.ensures.read) c.word-right.ensures.read) c.skip-3.ensures.read) c.word-more.ensures.read))

pub returns-then-not-is_done-clause-only : goal.returns-then-not-is_done-clause-only
returns-then-not-is_done-clause-only c = λ version r old form fits e.
    let none : length c.args.runs.now.items ≡ 0 = ap length c.requires.runs in
    let h = and_parts (is_relation r.sum) _ form in
    let q = equation_of_fits version r old fits in
    let d : IsDifference q.0 q.1 = difference_parts q.0 q.1 (ap is_relation (sym q.3) ∙ h.0) in
    let small = one_small r.set q.2 q.4 h.1 in
    let is = q.3 ∙ ap (λ y. difference_of q.0 y) d.is in
    let left = c.name-left.ensures.only q.0 _ d.place
    (c.skip.ensures.only _ (c.of-fields.ensures ∙ ap (λ (x : List ℕ). Some x) (e ∙ equation_fields r q.0 d.cell q.2 is q.4 small))) in
    let right = c.word-right.ensures.only d.cell _ d.small (c.skip-2.ensures.only _ left.1) in
    let more = c.word-more.ensures.only q.2 [] small (c.skip-3.ensures.only _ right.1) in
    c.if-not-is_done.ensures.1 (c.one-count.ensures.only (omega (arith, none)) ∙ more.1)

pub returns-then-not-is_before-clause-only : goal.returns-then-not-is_before-clause-only
returns-then-not-is_before-clause-only c = λ version r old form fits e.
    let h = and_parts (is_relation r.sum) _ form in
    let q = equation_of_fits version r old fits in
    let d : IsDifference q.0 q.1 = difference_parts q.0 q.1 (ap is_relation (sym q.3) ∙ h.0) in
    let small = one_small r.set q.2 q.4 h.1 in
    let is = q.3 ∙ ap (λ y. difference_of q.0 y) d.is in
    let left = c.name-left.ensures.only q.0 _ d.place
    (c.skip.ensures.only _ (c.of-fields.ensures ∙ ap (λ (x : List ℕ). Some x) (e ∙ equation_fields r q.0 d.cell q.2 is q.4 small))) in
    let right = c.word-right.ensures.only d.cell _ d.small (c.skip-2.ensures.only _ left.1) in
    c.if-not-is_before.ensures.1 (rw (left.0, right.0) d.before)
