use Rattle.command_line.proofs.CellLemmas.{from_none, none_is, none_more, one_before, one_behind, one_first}
use Rattle.command_line.proofs.place_options.cells_of_words.Goals as goal

pub loop-word-init : goal.loop-word-init
loop-word-init g c = ((λ set more. from_none _ _ _ set c.empty-set.ensures more), λ one. one)

pub loop-word-preserved : goal.loop-word-preserved
loop-word-preserved g c = (
  (λ set more. c.loop-word.invariant.0 set (one_before _ _ _ _ _ _ _ set c.in-Some.ensures.steps c.in_ok-more.ensures c.union-set.ensures more)),
  λ one. c.loop-word.invariant.1 (one_behind _ _ _ _ c.in-Some.ensures.steps one),
)

pub returns : goal.returns
returns g c = c.loop-word.invariant.0 _ (none_more _ _ _ (c.in_default.ensures.steps).0)

pub returns-in_err-more : goal.returns-in_err-more
returns-in_err-more g c = none_is _ _ _ c.from_residual.ensures (c.loop-word.invariant.1 (one_first _ _ _ _ c.in-Some.ensures.steps c.in_err-more.ensures))
