use Rattle.std.proofs.Common.{◌≡◌}
use Rattle.streams.specs.TextLeft.{words_left}
use Rattle.wordset.specs.Lanes.{words}
use Rattle.declaration.specs.Drafts.{cells_before}
use Rattle.declaration.proofs.LineLemmas.{with_cells}
use Rattle.declaration.proofs.lines.cells_before.Given as goal

-- the cells so far with those still to be read are all
abbrev pub invariant-loop-word : goal.invariant-loop-word
invariant-loop-word l =
    with_cells (words l.set) (cells_before (words_left l.words)) ≡ cells_before (words_left l.rest)
