use Rattle.std.proofs.Common.{◌≡◌, ◌++◌, true, refl, ap, ◌∙◌, List, ℕ, [], Some, length, arith}
use Rattle.std.specs.Prelude.{codes, nat_lt}
use Rattle.word12.specs.Words.{octal_text}
use Rattle.wordset.specs.Words.{has_some}
use Rattle.certificate_lines.specs.FieldSpelling.{set_text}
use Rattle.certificate_lines.specs.FieldsLeft.{left}
use Rattle.certificate_lines.specs.Runs.{added}
use Rattle.certificate_lines.proofs.DigitLemmas.{at_some}
use Rattle.certificate_lines.proofs.SumReadLemmas.{added_ends, one_laid, cell_spelled}
use Rattle.std.proofs.lemmas.Bool.{and_parts, ltb-true}
use Rattle.certificate_lines.proofs.LineLemmas.{both, whole, cell_fields}
use Rattle.certificate_lines.proofs.line.read_cell.Goals as goal

pub returns-else-is_done-clause-only : goal.returns-else-is_done-clause-only
returns-else-is_done-clause-only c = λ version t form e.
    let none : length c.args.runs.now.items ≡ 0 = ap length c.requires.runs in
    let h = and_parts (nat_lt t.address 4096) _ form in
    let address = c.word-cell.ensures.only t.address _ (ltb-true t.address 4096 h.0)
    (c.skip.ensures.only _ (c.of-fields.ensures ∙ ap (λ (x : List ℕ). Some x) (e ∙ cell_fields t))) in
    let set = c.some_set-count.ensures.only t.set [] (omega (arith, none)) h.1 tt (c.skip-2.ensures.only _ address.1) in
    c.if-is_done.ensures.1 set.0

pub returns-then-is_done-clause-read : goal.returns-then-is_done-clause-read
returns-then-is_done-clause-read c = λ version steps.
    let old = c.args.runs.now.items in
    let new = c.some_set-count.new.runs.items in
    let set = added old new in
    let f0 = left c.of-fields.result in let f1 = left c.skip.new.self in let f2 = left c.word-cell.new.self in let f3 = left c.skip-2.new.self in let f4 = left c.some_set-count.new.self in
    let done = c.if-is_done.ensures.0 refl in
    rw (one_laid old new c.some_set-count.result c.requires.runs c.some_set-count.ensures.count)
    (cell_spelled version c.word-cell.result set c.args.line.now (omega arith) (at_some (λ r. has_some set ≡ true) f4 [] c.some_set-count.ensures.some done) (added_ends old new)
    (whole c.args.line.now (codes "cell " ++ octal_text c.word-cell.result ++ codes " " ++ set_text set) f0 f4 c.of-fields.ensures done
    (both f0 f3 f4 (codes "cell " ++ octal_text c.word-cell.result ++ codes " ") (set_text set)
    (both f0 f2 f3 (codes "cell " ++ octal_text c.word-cell.result) (codes " ")
    (both f0 f1 f2 (codes "cell ") (octal_text c.word-cell.result) c.skip.ensures.read c.word-cell.ensures.read) c.skip-2.ensures.read) c.some_set-count.ensures.read)))
