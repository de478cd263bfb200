use Rattle.std.proofs.Common.{◌≡◌, ◌+◌, ◌∙◌, refl, sym, arith, get_or}
use Rattle.certificate_lines.specs.Lines.{End}
use Rattle.certificate_lines.specs.Packed.{said_lines}
use Rattle.certificate_lines.proofs.SumPackedLemmas.{line_at}
use Rattle.certificate_lines.proofs.SumSkipLemmas.{passed_on, stops_here, ends_here}
use Rattle.certificate_lines.proofs.lines.behind.Goals as goal

pub returns-then-start-count-clause-is : goal.returns-then-start-count-clause-is
returns-then-start-count-clause-is g c = ends_here (said_lines c.args.lines.now) (c.args.start + 1) c.len-count.result (omega (arith, c.len-count.ensures, c.if-start-count.true)) c.len-count.ensures

pub loop-at-init : goal.loop-at-init
loop-at-init g c = record { few = omega (arith, c.len-count.ensures, c.if-start-count.false); past = omega arith; same = refl }

pub loop-at-preserved : goal.loop-at-preserved
loop-at-preserved g c = record {
  few = omega (arith, c.len-count.ensures, c.loop-at-test.true);
  past = omega (arith, c.loop-at.invariant.past);
  same = passed_on (said_lines c.args.lines.now) c.loop-at.at (get_or (said_lines c.args.lines.now) c.loop-at.at End) (line_at (said_lines c.args.lines.now) c.loop-at.at (omega (arith, c.len-count.ensures, c.loop-at-test.true)))
      (sym c.is_detail.ensures ∙ c.if-not-is_detail.false) ∙ c.loop-at.invariant.same;
}

pub returns-then-not-is_detail-clause-after : goal.returns-then-not-is_detail-clause-after
returns-then-not-is_detail-clause-after g c = λ lt. omega (arith, c.loop-at.invariant.past)

pub returns-then-not-is_detail-clause-is : goal.returns-then-not-is_detail-clause-is
returns-then-not-is_detail-clause-is g c =
    stops_here (said_lines c.args.lines.now) c.loop-at.at (get_or (said_lines c.args.lines.now) c.loop-at.at End) (line_at (said_lines c.args.lines.now) c.loop-at.at (omega (arith, c.len-count.ensures, c.loop-at-test.true)))
    (sym c.is_detail.ensures ∙ c.if-not-is_detail.true) ∙ c.loop-at.invariant.same

pub returns-clause-is : goal.returns-clause-is
returns-clause-is g c =
    ends_here (said_lines c.args.lines.now) c.loop-at.at c.len-count.result (omega (arith, c.loop-at-test.false, c.len-count.ensures)) c.len-count.ensures ∙ c.loop-at.invariant.same
