use Rattle.std.proofs.Common.{◌≡◌, ◌∙◌, refl, sym, arith, get_or}
use Rattle.certificate_lines.specs.Lines.{End}
use Rattle.certificate_lines.specs.Packed.{said_lines}
use Rattle.certificate_lines.proofs.SumPackedLemmas.{line_at}
use Rattle.certificate_lines.proofs.SumDetailLemmas.{detail_passed, other_line, no_line, first_ended, none_first}
use Rattle.certificate_lines.proofs.lines.end_of.Goals as goal

pub returns-then-start-count-clause-is : goal.returns-then-start-count-clause-is
returns-then-start-count-clause-is g c = none_first (said_lines c.args.lines.now) c.args.start c.len-count.result (omega (arith, c.len-count.ensures, c.if-start-count.true))

pub loop-at-init : goal.loop-at-init
loop-at-init g c = record { few = omega (arith, c.len-count.ensures); ends = refl }

pub loop-at-preserved : goal.loop-at-preserved
loop-at-preserved g c = record {
  few = omega (arith, c.len-count.ensures, c.loop-at-test.true);
  ends = detail_passed (said_lines c.args.lines.now) c.loop-at.at (get_or (said_lines c.args.lines.now) c.loop-at.at End) (line_at (said_lines c.args.lines.now) c.loop-at.at (omega (arith, c.len-count.ensures, c.loop-at-test.true)))
      (sym c.is_detail.ensures ∙ c.if-not-is_detail.false) ∙ c.loop-at.invariant.ends;
}

pub returns-then-not-is_detail-clause-is : goal.returns-then-not-is_detail-clause-is
returns-then-not-is_detail-clause-is g c =
    first_ended (said_lines c.args.lines.now) c.args.start c.loop-at.at (omega (arith, c.len-count.ensures, c.if-start-count.false))
    (sym (other_line (said_lines c.args.lines.now) c.loop-at.at (get_or (said_lines c.args.lines.now) c.loop-at.at End) (line_at (said_lines c.args.lines.now) c.loop-at.at (omega (arith, c.len-count.ensures, c.loop-at-test.true)))
    (sym c.is_detail.ensures ∙ c.if-not-is_detail.true)) ∙ c.loop-at.invariant.ends)

pub returns-clause-is : goal.returns-clause-is
returns-clause-is g c =
    let last : c.len-count.result ≡ c.loop-at.at = omega (arith, c.len-count.ensures, c.loop-at-test.false, c.loop-at.invariant.few) in
    first_ended (said_lines c.args.lines.now) c.args.start c.len-count.result (omega (arith, c.len-count.ensures, c.if-start-count.false))
    (last ∙ (sym (no_line (said_lines c.args.lines.now) c.loop-at.at (omega (arith, c.len-count.ensures, c.loop-at-test.false))) ∙ c.loop-at.invariant.ends))
