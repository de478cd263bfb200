use Rattle.std.proofs.Common.{◌∙◌, ◌+◌}
use Rattle.labels.proofs.Withins.{line_on, no_line_on}
use Rattle.labels.proofs.within.push_lines.Goals as goal

pub loop-at-preserved : goal.loop-at-preserved
loop-at-preserved g c =
    line_on c.args.words.now c.args.part.now.number (c.loop-at.at + 1) c.loop-at.text.items c.push_declared.new.text.items c.args.part.now.source.now c.args.lines.now c.loop-at.at _ c.loop-at-test.true
    (rw c.address_on.ensures at c.in_ok-push_declared.ensures) ∙ c.loop-at.invariant

pub returns : goal.returns
returns g c = no_line_on c.args.words.now c.args.part.now.number (c.loop-at.at + 1) c.loop-at.text.items c.args.part.now.source.now c.args.lines.now c.loop-at.at c.loop-at-test.false ∙ c.loop-at.invariant
