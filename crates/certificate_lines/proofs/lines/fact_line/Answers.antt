use Rattle.std.proofs.Common.{◌≡◌, ◌∙◌, ◌<◌, [], get_or, sym, ap, arith}
use Rattle.std.proofs.lemmas.List.{drop_all}
use Rattle.certificate_lines.specs.Packed.{said_lines}
use Rattle.certificate_lines.specs.Found.{first_with_details}
use Rattle.certificate_lines.specs.Written.{facts_lines}
use Rattle.certificate_lines.proofs.SumWrittenLemmas.{none_passed, one_passed, fewer, its_lines}
use Rattle.certificate_lines.proofs.lines.fact_line.Goals as goal

pub from-line-requires : goal.from-line-requires
from-line-requires g c = record { order = c.requires.1.rising; small = omega (arith, c.index-place.ensures.small) }

pub loop-passed-init : goal.loop-passed-init
loop-passed-init g c = none_passed (said_lines c.args.lines.now) c.args.at c.from-line.result (rw c.index-place.ensures.same at c.from-line.ensures)

pub loop-passed-preserved : goal.loop-passed-preserved
loop-passed-preserved g c =
    let small : c.args.at < 4096 = omega (arith, c.index-place.ensures.same, c.index-place.ensures.small) in
    one_passed c.requires.0 c.args.lines.now c.args.at c.loop-passed.line c.loop-passed._passed c.requires.1 c.loop-passed.invariant c.behind-line.result small
    (sym (rw c.index-place.ensures.same at c.if-not-is_at.ensures)) c.behind-line.ensures.is

pub returns-then-not-is_at : goal.returns-then-not-is_at
returns-then-not-is_at g c =
    ap first_with_details (drop_all c.len.result (said_lines c.args.lines.now) (omega (arith, c.len.ensures))) ∙
    sym (fewer c.requires.0 c.args.lines.now c.args.at c.loop-passed.line c.loop-passed._passed c.requires.1 c.loop-passed.invariant c.args.number
    (omega (arith, c.loop-passed-test.true)) (sym (rw c.index-place.ensures.same at c.if-not-is_at.ensures)))

pub returns-then-is_at : goal.returns-then-is_at
returns-then-is_at g c =
    let small : c.args.at < 4096 = omega (arith, c.index-place.ensures.same, c.index-place.ensures.small) in
    let all : c.loop-passed._passed ≡ c.args.number = omega (arith, c.loop-passed-test.false, c.loop-passed.auto._passed-end) in
    its_lines c.requires.0 c.args.lines.now c.args.at c.loop-passed.line c.loop-passed._passed c.requires.1 c.loop-passed.invariant small
    (sym (rw c.index-place.ensures.same at c.if-is_at.ensures)) ∙ ap (λ i. get_or (facts_lines (said_lines c.args.lines.now) c.args.at) i []) all

pub returns-else-is_at : goal.returns-else-is_at
returns-else-is_at g c =
    ap first_with_details (drop_all c.len-else-is_at.result (said_lines c.args.lines.now) (omega (arith, c.len-else-is_at.ensures))) ∙
    sym (fewer c.requires.0 c.args.lines.now c.args.at c.loop-passed.line c.loop-passed._passed c.requires.1 c.loop-passed.invariant c.args.number
    (omega (arith, c.loop-passed-test.false, c.loop-passed.auto._passed-end)) (sym (rw c.index-place.ensures.same at c.if-is_at.ensures)))
