use Rattle.std.proofs.Common.{◌∙◌, sym, refl, arith}
use Rattle.pal_text.proofs.Fronts.{quiet_more, stop_comment}
use Rattle.pal_text.proofs.scan.comment_end.Goals as goal

pub loop-at-init : goal.loop-at-init
loop-at-init c = (record { tokens_are = refl; line_is = refl }, c.requires.comment, c.requires.returned, c.requires.inside)

pub loop-at-preserved : goal.loop-at-preserved
loop-at-preserved c =
    quiet_more c.args.source.now c.args.from c.loop-at.at (omega arith) c.loop-at.invariant.0 c.loop-at.invariant.1 c.loop-at.invariant.2 (sym c.is_line_end.ensures ∙ c.if-not-is_line_end.true)

pub returns-else-not-is_line_end-clause-stop : goal.returns-else-not-is_line_end-clause-stop
returns-else-not-is_line_end-clause-stop c = stop_comment c.args.source.now c.loop-at.at c.loop-at.invariant.3 c.loop-at.invariant.2 (sym c.is_line_end.ensures ∙ c.if-not-is_line_end.false)
