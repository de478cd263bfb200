use Rattle.std.proofs.Common.{◌≡◌, ◌+◌, ◌≤◌, refl, ap, ◌∙◌, List, ℕ, Some, length, true, arith}
use Rattle.std.specs.Prelude.{codes, ◌++◌}
use Rattle.wordset.specs.Words.{has_some}
use Rattle.wordset.specs.Links.{links_of}
use Rattle.certificate_lines.specs.FieldSpelling.{set_text, digits}
use Rattle.certificate_lines.specs.FieldsLeft.{left}
use Rattle.certificate_lines.specs.Runs.{added}
use Rattle.certificate_lines.specs.Spelling.{mq_text}
use Rattle.certificate_lines.specs.Laws.{MqFits}
use Rattle.certificate_lines.proofs.PackedLemmas.{two_laid}
use Rattle.certificate_lines.proofs.LineLemmas.{both, earlier}
use Rattle.certificate_lines.proofs.SumReadLemmas.{added_ends, registers_formed, registers_fit, registers_parts, mq_space, words_fields}
use Rattle.certificate_lines.proofs.line.read_registers.Goals as goal

pub returns-clause-form : goal.returns-clause-form
returns-clause-form c =
    let l = two_laid c.args.runs.now.items c.some_set-one.new.runs.items c.read_mq-other.new.runs.items c.some_set-one.result c.read_mq-other.result _ _ c.some_set-one.ensures.front c.read_mq-other.ensures.front
    c.some_set-one.ensures.count c.read_mq-other.ensures.count refl refl in
    let ac = added c.args.runs.now.items c.some_set-one.new.runs.items in
    let mq = added c.some_set-one.new.runs.items c.read_mq-other.new.runs.items in
    let link = links_of c.links-link.result in
    let f2 = left c.some_set-one.new.self in
    let f3 = left c.read_mq-other.new.fields in let f4 = left c.skip-2.new.self in let f5 = left c.links-link.new.self in
    rw (l.one_is, l.other_is)
    (registers_formed c.args.version ac mq link f5
    (earlier (has_some ac ≡ true) f4 f5 (digits 2 link) (earlier (has_some ac ≡ true) f3 f4 (codes " link ") (earlier (has_some ac ≡ true) f2 f3 (mq_text c.args.version mq) c.some_set-one.ensures.some c.read_mq-other.ensures.read) c.skip-2.ensures.read) c.links-link.ensures.read)
    (earlier (has_some mq ≡ true) f4 f5 (digits 2 link) (earlier (has_some mq ≡ true) f3 f4 (codes " link ") c.read_mq-other.ensures.some c.skip-2.ensures.read) c.links-link.ensures.read)
    c.links-link.ensures.some)

pub returns-clause-fits : goal.returns-clause-fits
returns-clause-fits c =
    let l = two_laid c.args.runs.now.items c.some_set-one.new.runs.items c.read_mq-other.new.runs.items c.some_set-one.result c.read_mq-other.result _ _ c.some_set-one.ensures.front c.read_mq-other.ensures.front
    c.some_set-one.ensures.count c.read_mq-other.ensures.count refl refl in
    let mq = added c.some_set-one.new.runs.items c.read_mq-other.new.runs.items in
    let link = links_of c.links-link.result in
    let f3 = left c.read_mq-other.new.fields in let f4 = left c.skip-2.new.self in let f5 = left c.links-link.new.self in
    rw (l.one_is, l.other_is)
    (registers_fit c.args.version _ mq link f5 (added_ends c.args.runs.now.items c.some_set-one.new.runs.items)
    (earlier (MqFits c.args.version mq) f4 f5 (digits 2 link) (earlier (MqFits c.args.version mq) f3 f4 (codes " link ") c.read_mq-other.ensures.fits c.skip-2.ensures.read) c.links-link.ensures.read) refl)

pub returns-clause-read : goal.returns-clause-read
returns-clause-read c =
    let l = two_laid c.args.runs.now.items c.some_set-one.new.runs.items c.read_mq-other.new.runs.items c.some_set-one.result c.read_mq-other.result _ _ c.some_set-one.ensures.front c.read_mq-other.ensures.front
    c.some_set-one.ensures.count c.read_mq-other.ensures.count refl refl in
    let ac = added c.args.runs.now.items c.some_set-one.new.runs.items in
    let mq = added c.some_set-one.new.runs.items c.read_mq-other.new.runs.items in
    let link = links_of c.links-link.result in
    let v = c.args.version in
    let f0 = left c.args.fields.now in let f1 = left c.skip.new.self in let f2 = left c.some_set-one.new.self in
    let f3 = left c.read_mq-other.new.fields in let f4 = left c.skip-2.new.self in let f5 = left c.links-link.new.self in
    rw (l.one_is, l.other_is)
    (both f0 f4 f5 (codes " ac " ++ set_text ac ++ mq_text v mq ++ codes " link ") (digits 2 link)
    (both f0 f3 f4 (codes " ac " ++ set_text ac ++ mq_text v mq) (codes " link ")
    (both f0 f2 f3 (codes " ac " ++ set_text ac) (mq_text v mq)
    (both f0 f1 f2 (codes " ac ") (set_text ac) c.skip.ensures.read c.some_set-one.ensures.read) c.read_mq-other.ensures.read)
    c.skip-2.ensures.read) c.links-link.ensures.read)

pub returns-clause-only : goal.returns-clause-only
returns-clause-only c = λ r rest room form ends e.
    let p = registers_parts c.args.version r form in
    let first = c.skip.ensures.only _ (e ∙ ap (λ (x : List ℕ). Some x) (words_fields c.args.version r rest)) in
    let set = c.some_set-one.ensures.only r.ac _ (omega (arith, room)) p.0 (mq_space c.args.version r.mq _) first in
    let few : length c.some_set-one.new.runs.items ≤ length c.args.runs.now.items + 2048 = set.1 in
    let after = c.read_mq-other.ensures.only r.mq _ (omega (arith, few, room)) p.1 refl set.0 in
    c.links-link.ensures.only r.link rest p.2 ends (c.skip-2.ensures.only _ after)
