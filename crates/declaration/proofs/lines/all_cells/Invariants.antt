use Rattle.std.proofs.Common.{◌≡◌}
use Rattle.streams.specs.TextLeft.{words_left}
use Rattle.wordset.specs.Lanes.{words}
use Rattle.declaration.specs.Lines.{all_of}
use Rattle.declaration.specs.Drafts.{cells_read}
use Rattle.declaration.proofs.LineLemmas.{with_cells}
use Rattle.declaration.proofs.lines.all_cells.Given as goal

-- the cells so far with those still to be read are all
abbrev pub invariant-loop-word : goal.invariant-loop-word
invariant-loop-word l =
    with_cells (words l.set) (all_of (cells_read l.form) (words_left l.words)) ≡ all_of (cells_read l.form) (words_left l.rest)
