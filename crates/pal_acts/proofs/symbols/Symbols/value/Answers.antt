use Rattle.std.proofs.Common.{◌∙◌, sym}
use Rattle.pal_acts.proofs.Worded.{value_more, value_all}
use Rattle.pal_acts.proofs.symbols.Symbols.value.Goals as goal

pub loop-item-preserved : goal.loop-item-preserved
loop-item-preserved g c =
    c.loop-item.invariant
    ∙ value_more _ c.args.here c.loop-item.sum c.args.joins.now c.loop-item.item-index c.item-item.result _ c.in_ok-term.field-0 c.join-sum.result c.loop-item-test.true c.item-item.is (sym c.term.ensures ∙ c.in_ok-term.was)
    c.join-sum.ensures

pub returns : goal.returns
returns g c = sym (c.loop-item.invariant ∙ value_all _ c.args.here c.loop-item.sum c.args.joins.now c.loop-item.item-index c.loop-item-test.false)
