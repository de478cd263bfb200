use Rattle.std.proofs.Common.{◌∙◌, refl, ◌+◌}
use Rattle.pal_asm.specs.SourceInCode.{lines_in}
use Rattle.pal_asm.proofs.Written.{line_left, no_line_left}
use Rattle.pal_asm.proofs.listing.keep_lines.Goals as goal

pub loop-at-preserved : goal.loop-at-preserved
loop-at-preserved g c =
    line_left c.loop-at.kept.items c.push.new.self.items _ c.args.front.now.number (c.loop-at.at + 1) c.loop-at.at c.args.front.now.bytes.now c.args.lines.now _ c.loop-at-test.true c.in_ok-push.ensures.items refl
    ∙ c.loop-at.invariant

pub returns : goal.returns
returns g c = no_line_left (lines_in c.loop-at.kept.items) c.args.front.now.number (c.loop-at.at + 1) c.loop-at.at c.args.front.now.bytes.now c.args.lines.now c.loop-at-test.false ∙ c.loop-at.invariant
