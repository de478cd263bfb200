use Rattle.std.proofs.Common.{◌≡◌}
use Rattle.std.specs.List.{after_first}
use Rattle.streams.specs.TextLeft.{words_left}
use Rattle.wordset.specs.Lanes.{words}
use Rattle.declaration.specs.Lines.{is_returns}
use Rattle.declaration.specs.Drafts.{ranges_before}
use Rattle.declaration.proofs.LineLemmas.{with_cells}
use Rattle.declaration.proofs.lines.body_cells.Given as goal

-- the cells so far with those still to be read are all, and the same words follow
abbrev pub invariant-loop-word : goal.invariant-loop-word
invariant-loop-word l = record {
  cells : with_cells (words l.set) (ranges_before (words_left l.rest)) ≡ ranges_before (words_left l.initial.rest);
  rest : after_first is_returns (words_left l.rest) ≡ after_first is_returns (words_left l.initial.rest);
}
