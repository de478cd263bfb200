use Rattle.std.proofs.Common.{refl}
use Rattle.command_line.proofs.CellLemmas.{from_none, no_text, text_before, text_behind, text_first}
use Rattle.command_line.proofs.place_options.named_cells.Goals as goal

pub loop-text-init : goal.loop-text-init
loop-text-init g c = ((λ set more. from_none _ _ _ set c.empty-set.ensures more), λ one. one)

pub loop-text-preserved : goal.loop-text-preserved
loop-text-preserved g c = (
  (λ set more. c.loop-text.invariant.0 set (text_before _ c.args.texts.now c.loop-text.text-index _ _ _ _ _ set
      c.loop-text-test.true c.as_bytes.ensures.value c.in-Some.ensures c.union-set.ensures more)),
  λ one. c.loop-text.invariant.1 (text_behind _ c.args.texts.now c.loop-text.text-index _ _ c.loop-text-test.true c.as_bytes.ensures.value one),
)

pub returns : goal.returns
returns g c = c.loop-text.invariant.0 _ (no_text _ c.args.texts.now c.loop-text.text-index _ c.loop-text-test.false)

pub returns-in_default : goal.returns-in_default
returns-in_default g c = (refl, c.loop-text.invariant.1 (text_first _ c.args.texts.now c.loop-text.text-index _ _ c.loop-text-test.true c.as_bytes.ensures.value c.in_default.ensures))
